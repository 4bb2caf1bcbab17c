use Rattle.std.proofs.Common.{All}
use Rattle.mf_hub_rows.specs.Crowds.{CameFrom, IsOf}
use Rattle.mf_hub_rows.proofs.crowd.gather.Given as goal

abbrev pub invariant-loop-next : goal.invariant-loop-next
invariant-loop-next l = All (CameFrom l.hub) l.walked.items × All (IsOf l.hub) l.passes.items

abbrev pub decreases-loop-next : goal.decreases-loop-next
decreases-loop-next l = l.walked.len
