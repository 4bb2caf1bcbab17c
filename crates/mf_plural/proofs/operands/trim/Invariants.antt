-- What is left is trimmed as the whole is.
use Rattle.std.proofs.Common.{◌≡◌}
use Rattle.mf_plural.specs.Operands.{trimmed, trimmed_len}
use Rattle.mf_plural.proofs.operands.trim.Given as goal

abbrev pub invariant-loop-len : goal.invariant-loop-len
invariant-loop-len l = record {
  len : trimmed_len l.len l.fraction ≡ trimmed_len l.fn.len l.fn.fraction;
  fraction : trimmed l.len l.fraction ≡ trimmed l.fn.len l.fn.fraction;
}

abbrev pub decreases-loop-len : goal.decreases-loop-len
decreases-loop-len l = l.len
