use Rattle.mf_turn_rows.specs.Tallies.{IsFree}
use Rattle.mf_turn_rows.proofs.crowd.watch.Given as goal

abbrev pub invariant-loop : goal.invariant-loop
invariant-loop l = IsFree l.turn l.seat
