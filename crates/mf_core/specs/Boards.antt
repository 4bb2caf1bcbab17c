-- What the calls of a board tell.
use Rattle.std.specs.Prelude.{◌≡◌, ℕ, Option, Some}
use Rattle.mf_flight.specs.declared.flights.Asked.{Asked}
use Rattle.mf_flight.specs.declared.flights.Asked.TheVariants as asked
use Rattle.mf_core.specs.declared.event.Told.{Told}
use Rattle.mf_core.specs.declared.event.Told.TheVariants.{Ready, Claimed, Busy}

-- what the answer to who asks for an entry tells
abbrev pub told_asked : Asked → Told
told_asked asked.Ready = Ready
told_asked asked.Busy = Busy
told_asked (asked.Claimed ticket) = Claimed

-- where an entry is claimed, the ticket is the claim's
abbrev pub TicketIs : Option (ℕ × ℕ) → Asked → Type 0
TicketIs claim asked.Ready = Unit {0}
TicketIs claim asked.Busy = Unit {0}
TicketIs claim (asked.Claimed ticket) = claim ≡ Some ticket
