-- What there is to know of the entries of one edition, so that it may be retired.
use Rattle.std.specs.Prelude.{◌≢◌, ℕ}
use Rattle.mf_flight.specs.Flights.{slot_of}
use Rattle.mf_flight.specs.declared.flights.Flights.{Flights}
use Rattle.mf_flight.specs.declared.slot.State.TheVariants.{Claimed}

-- no entry of the edition is claimed
abbrev pub IsUnclaimed : ℕ → Flights ℕ → Type 0
IsUnclaimed edition flights = (index : ℕ) → (slot_of flights edition index).state ≢ Claimed
