-- Those so far stand in front of what is left.
use Rattle.std.proofs.Common.{length}
use Rattle.mf_parse.specs.Computed.{keys_at, further_keys_at}
use Rattle.mf_parse.proofs.Gathers.{Gathered}
use Rattle.mf_parse.proofs.matcher.keys.Given as goal

abbrev pub invariant-loop-alloc : goal.invariant-loop-alloc
invariant-loop-alloc l = Gathered (keys_at l.fn.cursor.left) l.keys (further_keys_at l.cursor.left)

abbrev pub decreases-loop-alloc : goal.decreases-loop-alloc
decreases-loop-alloc l = length l.cursor.left
