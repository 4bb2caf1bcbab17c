use Rattle.std.proofs.Common.{arith}
use Rattle.mf_decimal.proofs.Showing.{trim_step}
use Rattle.mf_decimal.proofs.rounding.without_zeros.Goals as goal

pub loop-scale-preserved : goal.loop-scale-preserved
loop-scale-preserved c =
    let l = c.loop-scale in
    let i = l.invariant in
    let last = c.if-coefficient-eq0.true in
    record {
      fewer = omega arith;
      same = trim_step l.coefficient l.scale c.args.scale c.args.coefficient i.fewer (omega arith) last i.same;
      enough = λ le. omega arith;
      kept = λ le. omega arith;
    }
