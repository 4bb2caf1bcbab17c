use Rattle.std.proofs.Common.{◌≡◌, All}
use Rattle.mf_turn_rows.specs.Tallies.{IsShadow}
use Rattle.mf_turn_rows.proofs.crowd.shadows.Given as goal

abbrev pub invariant-loop : goal.invariant-loop
invariant-loop l = (l.from ≡ l.initial.from) × All (IsShadow l.turn) l.seats.items
