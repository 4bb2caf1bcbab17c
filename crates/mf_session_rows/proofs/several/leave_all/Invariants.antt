use Rattle.std.proofs.Common.{◌≡◌, All}
use Rattle.mf_session_rows.specs.Calling.{IsAt}
use Rattle.mf_session_rows.proofs.several.leave_all.Given as goal

abbrev pub invariant-loop-next : goal.invariant-loop-next
invariant-loop-next g l = (l.home.hub ≡ l.hub) × All (IsAt l.hub) l.callers.items

abbrev pub decreases-loop-next : goal.decreases-loop-next
decreases-loop-next g l = l.callers.len
