use Rattle.std.proofs.Common.{◌≡◌, All, None}
use Rattle.mf_turn_rows.specs.Tallies.{IsFree, IsShadow}
use Rattle.mf_turn_rows.proofs.crowd.gather.Given as goal

abbrev pub invariant-loop-seat : goal.invariant-loop-seat
invariant-loop-seat l = IsFree l.turn l.into × (l.into.view.leaving ≡ None) × All (IsShadow l.turn) l.seats.items

abbrev pub decreases-loop-seat : goal.decreases-loop-seat
decreases-loop-seat l = l.seats.len
