use Rattle.std.proofs.Common.{◌≤◌, ◌-◌}
use Rattle.mf_history.specs.Places.{IsFront}
use Rattle.mf_history.proofs.front.advance_to.Given as goal

abbrev pub invariant-loop-front : goal.invariant-loop-front
invariant-loop-front l = IsFront l.log l.front × (l.front.edition.number ≤ l.k)

abbrev pub decreases-loop-front : goal.decreases-loop-front
decreases-loop-front l = l.k - l.front.edition.number
