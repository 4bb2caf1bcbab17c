-- The entries of all editions: a map from an edition and an index to a state with quits.
use Rattle.std.specs.Prelude.{◌≡◌, ◌==◌, ◌&&◌, ℕ, if◌then◌else◌}
use Rattle.mf_flight.specs.declared.flights.Asked.{Asked}
use Rattle.mf_flight.specs.declared.flights.Asked.TheVariants as asked
use Rattle.mf_flight.specs.declared.flights.Flights.{Flights}
use Rattle.mf_flight.specs.declared.slot.State.{State}
use Rattle.mf_flight.specs.declared.slot.State.TheVariants.{Idle, Claimed, Ready}
use Rattle.mf_flight.specs.declared.slot.Slot.{Slot}
use Rattle.mf_flight.specs.Slots.{fresh}
use Rattle.mf_flight.specs.Sheets.{slot_at}

-- the entry of an edition and an index
abbrev pub slot_of : {P : Type 0} → Flights P → ℕ → ℕ → Slot P
slot_of flights edition index = slot_at flights.sheets.entries edition index

-- each entry is as it was
abbrev pub IsSame : {P : Type 0} → Flights P → Flights P → Type 0
IsSame old new = (edition index : ℕ) → slot_of new edition index ≡ slot_of old edition index

-- the entry of an edition and an index is this one, and every other is as it was
abbrev pub Puts : {P : Type 0} → Flights P → Flights P → ℕ → ℕ → Slot P → Type 0
Puts old new edition index slot =
    (e i : ℕ) → slot_of new e i ≡ (if (e == edition) && (i == index) then slot else slot_of old e i)

-- nothing is left of an edition, and every other is as it was
abbrev pub Retires : {P : Type 0} → Flights P → Flights P → ℕ → Type 0
Retires old new edition = (e i : ℕ) → slot_of new e i ≡ (if e == edition then fresh else slot_of old e i)

-- the answer to who asks for an entry in a state
abbrev pub answer_to : {P : Type 0} → State P → ℕ → ℕ → Asked
answer_to Idle edition index = asked.Claimed (edition, index)
answer_to Claimed edition index = asked.Busy
answer_to (Ready plan) edition index = asked.Ready
