use Rattle.std.proofs.Common.{◌≡◌, None}
use Rattle.mf_hub.specs.Held.{IsSeat}
use Rattle.mf_hub.specs.Passes.{Grows, Keeps}
use Rattle.mf_hub.proofs.hub.Hub.ask.Given as goal

abbrev pub invariant-loop : goal.invariant-loop
invariant-loop g l =
    (l.seat.turn ≡ l.initial.seat.turn) × IsSeat l.seat l.number None × Grows l.initial.seat.view l.seat.view
    × Keeps l.initial.seat.view l.seat.view × (l.seat.view.pin ≡ l.initial.seat.view.pin)
