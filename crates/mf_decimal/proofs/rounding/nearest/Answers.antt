use Rattle.std.proofs.Common.{◌≡◌, ℕ, ◌+◌, ◌/◌, ◌%◌, ◌-◌, ◌<◌, subst, rules, arith}
use Rattle.std.proofs.lemmas.Nat.{div-add-mod', mod_below}
use Rattle.mf_decimal.specs.Rounding.{IsNearest}
use Rattle.mf_decimal.proofs.Nearest.{nearest_below, nearest_above, nearest_tie}
use Rattle.mf_decimal.proofs.rounding.nearest.Goals as goal

pub returns-in-Less-clause-nearest : goal.returns-in-Less-clause-nearest
returns-in-Less-clause-nearest c =
    let unit = c.ten_to-unit.result in
    let less : c.args.number % unit < unit - c.args.number % unit = search rules in
    let P : ℕ → Type 0 = λ u. IsNearest c.args.number u (c.args.number / unit) in
    let parts = div-add-mod' c.args.number unit in
    subst P c.ten_to-unit.ensures.value (nearest_below c.args.number (c.args.number / unit) unit (c.args.number % unit) (omega arith) less)

pub returns-in-Equal-clause-nearest : goal.returns-in-Equal-clause-nearest
returns-in-Equal-clause-nearest c =
    let unit = c.ten_to-unit.result in
    let half : unit - c.args.number % unit ≡ c.args.number % unit = search rules in
    let P : ℕ → Type 0 = λ u. IsNearest c.args.number u (c.args.number / unit + c.args.number / unit % 2) in
    let parts = div-add-mod' c.args.number unit in
    subst P c.ten_to-unit.ensures.value (nearest_tie c.args.number (c.args.number / unit) unit (c.args.number % unit) (omega arith) (mod_below c.args.number unit c.ten_to-unit.ensures.some) half)

pub returns-in-Greater-clause-nearest : goal.returns-in-Greater-clause-nearest
returns-in-Greater-clause-nearest c =
    let unit = c.ten_to-unit.result in
    let more : unit - c.args.number % unit < c.args.number % unit = search rules in
    let P : ℕ → Type 0 = λ u. IsNearest c.args.number u (c.args.number / unit + 1) in
    let parts = div-add-mod' c.args.number unit in
    subst P c.ten_to-unit.ensures.value (nearest_above c.args.number (c.args.number / unit) unit (c.args.number % unit) (omega arith) (mod_below c.args.number unit c.ten_to-unit.ensures.some) more)
