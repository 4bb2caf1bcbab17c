use Rattle.std.proofs.Common.{◌≡◌, All}
use Rattle.mf_hub_rows.specs.Crowds.{IsOf}
use Rattle.mf_hub_rows.proofs.crowd.leave_all.Given as goal

abbrev pub invariant-loop-next : goal.invariant-loop-next
invariant-loop-next g l = (l.home.hub ≡ l.hub) × All (IsOf l.hub) l.passes.items

abbrev pub decreases-loop-next : goal.decreases-loop-next
decreases-loop-next g l = l.passes.len
