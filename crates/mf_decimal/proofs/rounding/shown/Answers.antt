use Rattle.std.proofs.Common.{ℕ, ◌+◌, ◌*◌, ◌^◌, ◌<◌, ◌↔◌, IsTrue, refl, ap, ◌∙◌, arith}
use Rattle.mf_decimal.proofs.Tens.{power_product}
use Rattle.mf_decimal.proofs.Cutting.{sign_kept, sign_none}
use Rattle.mf_decimal.proofs.Showing.{room_trimmed, over_shown, within_shown, same_shown, shortest_shown, some_shown, sign_shown}
use Rattle.mf_decimal.proofs.rounding.shown.Goals as goal
use Rattle.mf_decimal.proofs.rounding.shown.Goals.{then-negative, else-negative}

pub overflow_mul-result : goal.overflow_mul-result
overflow_mul-result c =
    let kept = c.without_zeros-coefficient in
    let room = room_trimmed c.args.coefficient c.args.scale c.args.least kept.result.0 kept.result.1 kept.ensures c.requires.near c.requires.room in
    rw (c.ten_to-unit.ensures.value, c.ten_to.ensures.value, c.saturating_sub-padding.ensures) (omega arith)

pub invariant_of-result : goal.invariant_of-result
invariant_of-result c =
    let kept = c.without_zeros-coefficient.result.0 in
    let scale = c.without_zeros-coefficient.result.1 in
    let padding = c.saturating_sub-padding.result in
    let sign : IsTrue c.if-negative.result ↔ (IsTrue c.args.negative × (0 < kept)) =
    elim c.if-negative.branch [
      | then-negative w ↦ sign_kept c.if-negative.result c.args.negative kept w.if-negative.true w.result-is
      | else-negative w ↦ sign_none c.if-negative.result c.args.negative kept w.if-negative.false w.result-is
    ] in
    let power = power_product scale padding c.ten_to-unit.result c.ten_to.result c.ten_to-unit.ensures.value c.ten_to.ensures.value in
    record {
      within = within_shown kept c.ten_to-unit.result c.ten_to.result (10 ^ (scale + padding)) c.ten_to-unit.ensures.some c.ten_to.ensures.some power;
      near = omega (arith, c.without_zeros-coefficient.ensures.fewer);
      unsigned_zero = λ below. some_shown kept c.ten_to-unit.result c.ten_to.result (sign.0 below).1 c.ten_to.ensures.some;
    }

pub returns-clause-amount : goal.returns-clause-amount
returns-clause-amount c =
    let kept = c.without_zeros-coefficient in
    let padding = c.saturating_sub-padding.result in
    let power = power_product kept.result.1 padding c.ten_to-unit.result c.ten_to.result c.ten_to-unit.ensures.value c.ten_to.ensures.value in
    let over = over_shown kept.result.0 c.ten_to-unit.result c.ten_to.result (10 ^ (kept.result.1 + padding)) power in
    same_shown _ c.args.coefficient c.args.scale kept.result.0 kept.result.1 padding kept.ensures.fewer kept.ensures.same (over ∙ ap (λ (p : ℕ). kept.result.0 * p) c.ten_to.ensures.value)

pub returns-clause-shortest : goal.returns-clause-shortest
returns-clause-shortest c =
    let kept = c.without_zeros-coefficient in
    let padding = c.saturating_sub-padding.result in
    let power = power_product kept.result.1 padding c.ten_to-unit.result c.ten_to.result c.ten_to-unit.ensures.value c.ten_to.ensures.value in
    let over = over_shown kept.result.0 c.ten_to-unit.result c.ten_to.result (10 ^ (kept.result.1 + padding)) power in
    shortest_shown _ c.args.coefficient c.args.scale c.args.least kept.result.0 kept.result.1 padding kept.ensures c.saturating_sub-padding.ensures refl (over ∙ ap (λ (p : ℕ). kept.result.0 * p) c.ten_to.ensures.value)

pub returns-clause-sign : goal.returns-clause-sign
returns-clause-sign c =
    let kept = c.without_zeros-coefficient.result.0 in
    let scale = c.without_zeros-coefficient.result.1 in
    let padding = c.saturating_sub-padding.result in
    let sign : IsTrue c.if-negative.result ↔ (IsTrue c.args.negative × (0 < kept)) =
    elim c.if-negative.branch [
      | then-negative w ↦ sign_kept c.if-negative.result c.args.negative kept w.if-negative.true w.result-is
      | else-negative w ↦ sign_none c.if-negative.result c.args.negative kept w.if-negative.false w.result-is
    ] in
    let power = power_product scale padding c.ten_to-unit.result c.ten_to.result c.ten_to-unit.ensures.value c.ten_to.ensures.value in
    sign_shown c.if-negative.result c.args.negative _ kept c.ten_to.result (over_shown kept c.ten_to-unit.result c.ten_to.result (10 ^ (scale + padding)) power) c.ten_to.ensures.some sign
