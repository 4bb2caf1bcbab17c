use Rattle.mf_turn_rows.specs.Tallies.{IsShadow}
use Rattle.mf_turn_rows.proofs.crowd.add_many.Given as goal

abbrev pub invariant-loop : goal.invariant-loop
invariant-loop g l = IsShadow l.turn l.seat
