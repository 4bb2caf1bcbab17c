-- Those so far stand in front of what is left.
use Rattle.std.proofs.Common.{length}
use Rattle.mf_parse.specs.Computed.{declarations_at}
use Rattle.mf_parse.proofs.Gathers.{Gathered}
use Rattle.mf_parse.proofs.declaration.declarations.Given as goal

abbrev pub invariant-loop-declarations : goal.invariant-loop-declarations
invariant-loop-declarations l = Gathered (declarations_at l.fn.cursor.left) l.declarations (declarations_at l.cursor.left)

abbrev pub decreases-loop-declarations : goal.decreases-loop-declarations
decreases-loop-declarations l = length l.cursor.left
