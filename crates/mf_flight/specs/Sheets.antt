-- For private clauses: the entries of one edition, by their indices, with their totals.
use Rattle.std.specs.Prelude.{◌≤◌, ◌≡◌, ◌==◌, ◌&&◌, ℕ, List, Option, None, Some, if◌then◌else◌}
use Rattle.std.specs.Map.{lookup}
use Rattle.std.specs.Ordering.{is_eq, nat_cmp}
use Rattle.mf_flight.specs.declared.sheet.Outcome.{Outcome}
use Rattle.mf_flight.specs.declared.sheet.Outcome.TheVariants as outcome
use Rattle.mf_flight.specs.declared.slot.Slot.{Slot}
use Rattle.mf_flight.specs.declared.slot.State.{State}
use Rattle.mf_flight.specs.declared.slot.State.TheVariants.{Idle, Claimed, Ready}
use Rattle.mf_flight.specs.Slots.{fresh, most_quits, starts_of}
use Rattle.mf_flight.specs.Sums.{IsSum}

-- what is kept under a number
abbrev pub kept : {X : Type 0} → List (ℕ × X) → ℕ → Option X
kept entries n = lookup (λ key. is_eq (nat_cmp n key)) entries

-- an entry, where it is one that was never asked for if nothing is kept of it
abbrev pub or_fresh : {P : Type 0} → Option (Slot P) → Slot P
or_fresh None = fresh
or_fresh (Some slot) = slot

-- the entry of an index
abbrev pub slot_in : {P : Type 0} → List (ℕ × Slot P) → ℕ → Slot P
slot_in entries index = or_fresh (kept entries index)

-- the totals are those of the entries, and no entry has more quits than it may
pub record IsCounted {P : Type 0} (entries : List (ℕ × Slot P)) (starts quits : ℕ) : Type 0 where
  pub small : (index : ℕ) → (slot_in entries index).quits ≤ most_quits
  pub started : IsSum (λ index. starts_of (slot_in entries index)) starts
  pub given_back : IsSum (λ index. (slot_in entries index).quits) quits

-- one entry is this one, and every other is as it was
abbrev pub PutsIn : {P : Type 0} → List (ℕ × Slot P) → List (ℕ × Slot P) → ℕ → Slot P → Type 0
PutsIn old new index slot = (i : ℕ) → slot_in new i ≡ (if i == index then slot else slot_in old i)

-- the entry of an index among those of its edition
abbrev pub slot_among : {P : Type 0} → Option (List (ℕ × Slot P)) → ℕ → Slot P
slot_among None index = fresh
slot_among (Some entries) index = slot_in entries index

-- the entry of an edition and an index
abbrev pub slot_at : {P : Type 0} → List (ℕ × List (ℕ × Slot P)) → ℕ → ℕ → Slot P
slot_at sheets edition index = slot_among (kept sheets edition) index

-- each entry is as it was
abbrev pub IsSameAt : {P : Type 0} → List (ℕ × List (ℕ × Slot P)) → List (ℕ × List (ℕ × Slot P)) → Type 0
IsSameAt old new = (e i : ℕ) → slot_at new e i ≡ slot_at old e i

-- the entry of an edition and an index is this one, and every other is as it was
abbrev pub PutsAt : {P : Type 0} → List (ℕ × List (ℕ × Slot P)) → List (ℕ × List (ℕ × Slot P)) → ℕ → ℕ → Slot P → Type 0
PutsAt old new edition index slot =
    (e i : ℕ) → slot_at new e i ≡ (if (e == edition) && (i == index) then slot else slot_at old e i)

-- what comes of a question for an entry in a state
abbrev pub outcome_of : {P : Type 0} → State P → Outcome
outcome_of Idle = outcome.Claimed
outcome_of Claimed = outcome.Busy
outcome_of (Ready plan) = outcome.Ready
