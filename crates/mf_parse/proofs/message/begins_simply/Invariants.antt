-- What is left begins simply exactly where the text does, since only white space is passed.
use Rattle.std.proofs.Common.{◌≡◌, length}
use Rattle.mf_parse.specs.Computed.{begins_simply}
use Rattle.mf_parse.proofs.message.begins_simply.Given as goal

abbrev pub invariant-loop-c : goal.invariant-loop-c
invariant-loop-c l = begins_simply l.fn.cursor.left ≡ begins_simply l.ahead.left

abbrev pub decreases-loop-c : goal.decreases-loop-c
decreases-loop-c l = length l.ahead.left
