use Rattle.std.proofs.Common.{◌≡◌, ◌≤◌, ◌*◌, ◌^◌, ◌-◌}
use Rattle.mf_decimal.proofs.rounding.without_zeros.Given as goal

abbrev pub invariant-loop-scale : goal.invariant-loop-scale
invariant-loop-scale l = record {
  fewer : l.scale ≤ l.fn.scale;
  same : l.coefficient * 10 ^ (l.fn.scale - l.scale) ≡ l.fn.coefficient;
  enough : l.least ≤ l.fn.scale → l.least ≤ l.scale;
  kept : l.fn.scale ≤ l.least → l.scale ≡ l.fn.scale;
}

abbrev pub decreases-loop-scale : goal.decreases-loop-scale
decreases-loop-scale l = l.scale
