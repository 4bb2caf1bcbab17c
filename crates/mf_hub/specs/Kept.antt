-- For private clauses: what the desk of one caller keeps.
use Rattle.std.specs.Prelude.{◌≡◌, ◌≢◌, ◌⊎◌, ◌+◌, ◌≤◌, ◌||◌, ℕ, zero, suc, Bool, true, false, List, [], ◌∷◌, length, if◌then◌else◌}
use Rattle.std.specs.Arc.{arc_value}
use Rattle.std.specs.declared.alloc.Global.{Global}
use Rattle.std.specs.declared.sync.Arc.{Arc}
use Rattle.mf_edition.specs.Edition.{newest_edition, EditionState}
use Rattle.mf_edition.specs.declared.change.Entry.{Entry}
use Rattle.mf_flight.specs.Flights.{slot_of, Puts}
use Rattle.mf_flight.specs.Slots.{done, fresh, most_quits, quit}
use Rattle.mf_flight.specs.Sums.{sum_below}
use Rattle.mf_flight.specs.declared.flights.Flights.{Flights}
use Rattle.mf_flight.specs.declared.slot.Slot.{Slot}
use Rattle.mf_flight.specs.declared.slot.State.{State}
use Rattle.mf_flight.specs.declared.slot.State.TheVariants.{Claimed, Idle, Ready}
use Rattle.mf_plan.specs.Plans.{CompilesTo, IsNode}
use Rattle.mf_plan.specs.declared.plan.Plan.{Plan}
use Rattle.mf_transcript.specs.Sole.{Desk}
use Rattle.mf_hub.specs.Desks.{is_among, IsPlanAt}

abbrev pub is_ready_state : {P : Type 0} → State P → Bool
is_ready_state Idle = false
is_ready_state Claimed = false
is_ready_state (Ready plan) = true

-- the numbers below one that pass a test
abbrev pub passing_below : (ℕ → Bool) → ℕ → List ℕ
passing_below test zero = []
passing_below test (suc n) = if test n then n ∷ passing_below test n else passing_below test n

module _ {P : Type 0} (edition : EditionState) (flights : Flights P) where
  -- the compilation of the message at an index
  abbrev pub slot : ℕ → Slot P
  slot index = slot_of flights edition.number index

  -- the messages that are ready
  abbrev pub ready_in : List ℕ
  ready_in = passing_below (λ index. is_ready_state (slot index).state) (length edition.items)

  abbrev pub quits_in : ℕ
  quits_in = sum_below (λ index. (slot index).quits) (length edition.items)

-- the desk that a log and the compilations of its newest edition's messages are
abbrev pub desk_of : {P : Type 0} → List Entry → Flights P → Desk
desk_of log flights =
    record { log = log; ready = ready_in (newest_edition log) flights; quits = quits_in (newest_edition log) flights }

-- the compilations are those of an edition's messages: none is claimed, and each plan is its message's
pub record AreOf {P : Type 0} (plan_in : P → Plan) (edition : EditionState) (flights : Flights P) : Type 0 where
  pub others : (e i : ℕ) → e ≢ edition.number → slot_of flights e i ≡ fresh
  pub beyond : (i : ℕ) → length edition.items ≤ i → slot edition flights i ≡ fresh
  pub small : (i : ℕ) → (slot edition flights i).quits ≤ most_quits
  pub unclaimed : (i : ℕ) → (slot edition flights i).state ≢ Claimed
  pub plans : (i : ℕ) (plan : P) → (slot edition flights i).state ≡ Ready plan → IsPlanAt edition i (plan_in plan)

-- the message at an index is ready now, and nothing else has changed
pub record Finds {P : Type 0} (edition : EditionState) (before : Flights P) (index : ℕ) (after : Flights P) : Type 0 where
  pub ready : (i : ℕ) → is_ready_state (slot edition after i).state ≡ (is_ready_state (slot edition before i).state || is_among (index ∷ []) i)
  pub quits : (i : ℕ) → (slot edition after i).quits ≡ (slot edition before i).quits

-- the message at an index may be ready now, and has at most one more quit
pub record Misses {P : Type 0} (edition : EditionState) (before : Flights P) (index : ℕ) (after : Flights P) : Type 0 where
  pub kept : (i : ℕ) → is_ready_state (slot edition before i).state ≡ true → is_ready_state (slot edition after i).state ≡ true
  pub new : (i : ℕ) → is_ready_state (slot edition after i).state ≡ true
      → (is_ready_state (slot edition before i).state || is_among (index ∷ []) i) ≡ true
  pub least : (slot edition before index).quits ≤ (slot edition after index).quits
  pub most : (slot edition after index).quits ≤ (slot edition before index).quits + 1
  pub quits : (i : ℕ) → i ≢ index → (slot edition after i).quits ≡ (slot edition before i).quits

-- the plan of a source is kept
pub record Keeps (source : List ℕ) (before : Flights (Arc Plan Global)) (e i : ℕ) (after : Flights (Arc Plan Global)) : Type 0 where
  pub plan : Arc Plan Global
  pub compiles : CompilesTo source (arc_value plan)
  pub node : IsNode (arc_value plan)
  pub puts : Puts before after e i (done (slot_of before e i) plan)

-- the plan of a source is kept, or its compilation was given up
abbrev pub KeepsOrQuits : List ℕ → Flights (Arc Plan Global) → ℕ → ℕ → Flights (Arc Plan Global) → Type 0
KeepsOrQuits source before e i after = Keeps source before e i after ⊎ Puts before after e i (quit (slot_of before e i))
