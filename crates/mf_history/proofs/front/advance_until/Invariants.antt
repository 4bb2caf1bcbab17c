use Rattle.std.proofs.Common.{ℕ, ◌≡◌, ◌≤◌, ◌-◌, length, take}
use Rattle.mf_edition.specs.Sizes.{used_by}
use Rattle.mf_history.specs.Places.{IsLater}
use Rattle.mf_history.proofs.front.advance_until.Given as goal

abbrev pub invariant-loop-front : goal.invariant-loop-front
invariant-loop-front l =
    IsLater l.log l.initial.front l.front
    × ((k : ℕ) → l.initial.front.edition.number ≤ k → k ≤ length l.log → used_by (take k l.log) ≡ l.used → l.front.edition.number ≤ k)

abbrev pub decreases-loop-front : goal.decreases-loop-front
decreases-loop-front l = length l.log - l.front.edition.number
