use Rattle.std.proofs.Common.{◌≡◌, ℕ, ◌∷◌, List, sym, ap, ◌∙◌, arith}
use Rattle.mf_decimal.proofs.Spelling.{fraction_spelled}
use Rattle.mf_decimal.proofs.parts.split_fraction.Goals as goal

pub returns-else-is_empty-clause-split : goal.returns-else-is_empty-clause-split
returns-else-is_empty-clause-split c =
    let some = c.in-Some-eq46-default in
    let d = c.split_digits in
    let point : some.field-0-0.now ≡ 46 = omega arith in
    let after = ap (λ (b : ℕ). b ∷ some.digits.now) point ∙ ap (λ (t : List ℕ). 46 ∷ t) d.ensures.parts in
    fraction_spelled c.args.bytes.now d.result.0.now d.result.1.now (some.ensures.cases.0 ∙ after) d.ensures.digits d.ensures.longest (sym c.is_empty.ensures ∙ c.if-is_empty.false)
