use Rattle.std.proofs.Common.{arith}
use Rattle.mf_decimal.proofs.Dropped.{rounded_to, kept_fraction, kept_whole, kept_short}
use Rattle.mf_decimal.proofs.decimal.Decimal.rounded.Goals as goal

pub overflow_mul-result : goal.overflow_mul-result
overflow_mul-result c =
    let x = c.args.self.now in
    let short = kept_short x.coefficient c.drop_count-drop.result x.scale c.nearest-count.result c.ten_to.result x.short c.drop_count-drop.ensures.within (omega arith) c.nearest-count.ensures.at_most c.ten_to.ensures.value in
    omega arith

pub returns-then-drop-self-clause-rounded : goal.returns-then-drop-self-clause-rounded
returns-then-drop-self-clause-rounded c =
    let x = c.args.self.now in
    rounded_to x c.args.digits c.drop_count-drop.result c.nearest-count.result _ _ c.drop_count-drop.ensures.drop c.nearest-count.ensures.nearest
    (kept_fraction c.nearest-count.result c.drop_count-drop.result x.scale (omega arith))

pub returns-else-drop-self-clause-rounded : goal.returns-else-drop-self-clause-rounded
returns-else-drop-self-clause-rounded c =
    let x = c.args.self.now in
    rounded_to x c.args.digits c.drop_count-drop.result c.nearest-count.result _ 0 c.drop_count-drop.ensures.drop c.nearest-count.ensures.nearest
    (kept_whole c.nearest-count.result c.drop_count-drop.result x.scale c.ten_to.result (omega arith) c.ten_to.ensures.value)

pub returns-else-drop-self-clause-short : goal.returns-else-drop-self-clause-short
returns-else-drop-self-clause-short c =
    let x = c.args.self.now in
    kept_short x.coefficient c.drop_count-drop.result x.scale c.nearest-count.result c.ten_to.result x.short c.drop_count-drop.ensures.within (omega arith) c.nearest-count.ensures.at_most c.ten_to.ensures.value
