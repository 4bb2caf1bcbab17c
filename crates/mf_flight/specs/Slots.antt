-- The state of an entry, and how often its message was begun and given back.
use Rattle.std.specs.Prelude.{◌+◌, ℕ, Option, None, Some, min}
use Rattle.mf_flight.specs.declared.slot.State.{State}
use Rattle.mf_flight.specs.declared.slot.State.TheVariants.{Idle, Claimed, Ready}
use Rattle.mf_flight.specs.declared.slot.Slot.{Slot}

-- the last value of quits, at which it stays
abbrev pub most_quits : ℕ
most_quits = 2147483647

-- an entry that was never asked for
abbrev pub fresh : {P : Type 0} → Slot P
fresh = record { state = Idle; quits = 0 }

-- one where it is claimed or ready
abbrev pub taken : {P : Type 0} → State P → ℕ
taken Idle = 0
taken Claimed = 1
taken (Ready plan) = 1

-- the starts of an entry: its quits, and one more where it is claimed or ready
abbrev pub starts_of : {P : Type 0} → Slot P → ℕ
starts_of slot = slot.quits + taken slot.state

-- the entry claimed
abbrev pub claimed : {P : Type 0} → Slot P → Slot P
claimed slot = record { state = Claimed; quits = slot.quits }

-- the entry ready with a plan
abbrev pub done : {P : Type 0} → Slot P → P → Slot P
done slot plan = record { state = Ready plan; quits = slot.quits }

-- the entry idle, with one more quit
abbrev pub quit : {P : Type 0} → Slot P → Slot P
quit slot = record { state = Idle; quits = min (slot.quits + 1) most_quits }

-- the state after a question for it: an idle entry is claimed
abbrev pub state_asked : {P : Type 0} → State P → State P
state_asked Idle = Claimed
state_asked Claimed = Claimed
state_asked (Ready plan) = Ready plan

-- the entry after a question for it
abbrev pub asked : {P : Type 0} → Slot P → Slot P
asked slot = record { state = state_asked slot.state; quits = slot.quits }

-- what a ready entry is ready with
abbrev pub plan_of : {P : Type 0} → State P → Option P
plan_of Idle = None
plan_of Claimed = None
plan_of (Ready plan) = Some plan
