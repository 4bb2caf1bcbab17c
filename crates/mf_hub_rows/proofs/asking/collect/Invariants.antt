use Rattle.std.proofs.Common.{◌≡◌, All}
use Rattle.mf_hub_rows.specs.Crowds.{CameBack}
use Rattle.mf_hub_rows.proofs.asking.collect.Given as goal

abbrev pub invariant-loop-next : goal.invariant-loop-next
invariant-loop-next g l = (l.home.hub ≡ l.hub) × All (CameBack l.hub) l.askers.items

abbrev pub decreases-loop-next : goal.decreases-loop-next
decreases-loop-next g l = l.askers.len
