-- The bytes so far are joined.
use Rattle.std.proofs.Common.{◌≡◌, ◌<◌, ◌≤◌, ◌+◌, ◌-◌, ℕ, length, true, get_or}
use Rattle.mf_plural.specs.Computed.{are_joined}
use Rattle.mf_plural.proofs.lexeme.lexeme_len.Given as goal

abbrev pub invariant-loop-len : goal.invariant-loop-len
invariant-loop-len l = record {
  some : 0 < l.len;
  within : l.len ≤ length l.text;
  joined : (k : ℕ) → k + 1 < l.len → are_joined (get_or l.text k 0) (get_or l.text (k + 1) 0) ≡ true;
}

abbrev pub decreases-loop-len : goal.decreases-loop-len
decreases-loop-len l = length l.text - l.len
