use Rattle.std.proofs.Common.{◌≡◌, None}
use Rattle.mf_turn_rows.specs.Tallies.{SameCaller}
use Rattle.mf_turn_rows.proofs.crowd.publish_many.Given as goal

abbrev pub invariant-loop-made : goal.invariant-loop-made
invariant-loop-made g l = (l.seat.taken ≡ None) × SameCaller l.initial.seat l.seat × (l.seat.view.made ≡ l.made)
