-- What a board is seen as; from `IsKept` on for private clauses.
use Rattle.std.specs.Prelude.{◌≡◌, ◌⊎◌, ◌+◌, ◌==◌, ◌≤◌, ◌&&◌, ◌||◌, ℕ, Bool, true, not, nat_lt, List, length, slice_get, Option, None, Some, Result, MatchResult, if◌then◌else◌}
use Rattle.mf_edition.specs.Edition.{edition_of}
use Rattle.mf_flight.specs.declared.flights.Flights.{Flights}
use Rattle.mf_flight.specs.Flights.{slot_of}
use Rattle.mf_flight.specs.Slots.{fresh, plan_of}
use Rattle.mf_flight.specs.declared.slot.Slot.{Slot}
use Rattle.mf_flight.specs.declared.slot.State.{State}
use Rattle.mf_flight.specs.declared.slot.State.TheVariants.{Idle, Claimed, Ready}
use Rattle.mf_legal.specs.Calls.{one_if}
use Rattle.mf_core.specs.declared.caller.CallerState.{CallerState}
use Rattle.mf_core.specs.declared.error.CoreError.{CoreError}
use Rattle.mf_core.specs.declared.event.Event.{Event}
use Rattle.mf_core.specs.declared.event.Told.{Told}
use Rattle.mf_core.specs.declared.held.Held.{Held}
use Rattle.mf_core.specs.declared.board.Board.{Board}
use Rattle.mf_core.specs.Worlds.{away, World, is_at, pins, with_caller}
use Rattle.mf_core.specs.Steps.{refusal, IsDue, Step}
use Rattle.mf_core.specs.Valid.{Valid}

-- a state, without what is ready
abbrev pub blank_state : {P : Type 0} → State P → State (Unit {0})
blank_state Idle = Idle
blank_state Claimed = Claimed
blank_state (Ready plan) = Ready tt

-- an entry, without what it is ready with
abbrev pub blank : {P : Type 0} → Slot P → Slot (Unit {0})
blank slot = record { state = blank_state slot.state; quits = slot.quits }

-- the state that is kept of a caller, or that of one of whom nothing is
abbrev pub or_away : Option CallerState → CallerState
or_away None = away
or_away (Some state) = state

abbrev pub state_at : List CallerState → ℕ → CallerState
state_at callers n = or_away (slice_get callers n)

-- the World that a board is
abbrev pub board_world : {P : Type 0} → Board P → World
board_world board = record {
  log = board.log;
  next = length board.callers.items;
  caller = λ n. state_at board.callers.items n;
  slot = λ e i. blank (slot_of board.flights e i);
}

-- what the entry of an edition and an index is ready with, if it is ready
abbrev pub plan_at : {P : Type 0} → Board P → ℕ → ℕ → Option P
plan_at board e i = plan_of (slot_of board.flights e i).state

-- what is ready was ready before, with the same plan
abbrev pub KeepsPlans : {P : Type 0} → Board P → Board P → Type 0
KeepsPlans {P} old new = (e i : ℕ) (plan : P) → plan_at new e i ≡ Some plan → plan_at old e i ≡ Some plan

-- the same, but for one entry, which may be ready with this
abbrev pub GainsPlan : {P : Type 0} → Board P → Board P → ℕ × ℕ → P → Type 0
GainsPlan {P} old new spent made = (e i : ℕ) (plan : P) → plan_at new e i ≡ Some plan
    → (plan_at old e i ≡ Some plan) ⊎ ((e ≡ spent.0) × (i ≡ spent.1) × (plan ≡ made))

-- what is held of an edition
abbrev pub held_of : Option Held → Held
held_of None = record { messages = 0; pins = 0 }
held_of (Some held) = held

abbrev pub held_at : List Held → ℕ → Held
held_at editions e = held_of (slice_get editions e)

-- the World in which a caller has another pin, and has seen so much
abbrev pub repinned : World → ℕ → Option ℕ → ℕ → World
repinned w n to seen = with_caller w n (record (w.caller n) { pinned = to; seen = seen })

-- of each edition its messages and its pins are held, and the World is valid
pub record IsKept {P : Type 0} (board : Board P) : Type 0 where
  pub valid : Valid (board_world board)
  pub many : length board.editions.items ≡ length board.log + 1
  pub messages : (e : ℕ) → e ≤ length board.log → (held_at board.editions.items e).messages ≡ length (edition_of board.log e).items
  pub counted : (e : ℕ) → (held_at board.editions.items e).pins ≡ pins (board_world board) e

-- one caller's state is this one, and every other is as it was
pub record PutsState (old new : List CallerState) (n : ℕ) (state : CallerState) : Type 0 where
  pub many : length new ≡ length old
  pub states : (m : ℕ) → state_at new m ≡ (if m == n then state else state_at old m)

-- one caller more has joined, and has seen so much
abbrev pub JoinsState : List CallerState → List CallerState → ℕ → Type 0
JoinsState old new seen = (m : ℕ) → state_at new m ≡ (if m == length old then record away { joined = true; seen = seen } else state_at old m)

-- the pins of one edition go to another
pub record MovesPin (old new : List Held) (from to : Option ℕ) : Type 0 where
  pub many : length new ≡ length old
  pub messages : (e : ℕ) → (held_at new e).messages ≡ (held_at old e).messages
  pub pins : (e : ℕ) → (held_at new e).pins + one_if (is_at e from) ≡ (held_at old e).pins + one_if (is_at e to)

-- an edition that isn't the newest and has no pin
abbrev pub is_dead : List Held → ℕ → ℕ → Bool
is_dead editions newest e = not ((e == newest) || nat_lt 0 (held_at editions e).pins)

-- the entries of an edition are gone where it is dead, and every other is as it was
abbrev pub DropsDead : {P : Type 0} → List Held → ℕ → ℕ → Flights P → Flights P → Type 0
DropsDead editions newest edition old new =
    (e i : ℕ) → slot_of new e i ≡ (if (e == edition) && is_dead editions newest edition then fresh else slot_of old e i)

-- an event does its step, or it is refused and nothing changes
abbrev pub Does : World → Event → Result Told CoreError → World → Type 0
Does w event result after =
    MatchResult result (λ told. Step w event told after) (λ error. IsDue (refusal w event) error × (after ≡ w))
