-- What holds of every World that events lead to.
use Rattle.std.specs.Prelude.{◌≡◌, ◌+◌, ◌==◌, ◌≤◌, ◌++◌, ℕ, zero, suc, Bool, true, false, List, [], ◌∷◌, length, Option, Some, if◌then◌else◌}
use Rattle.mf_edition.specs.declared.change.Entry.{Entry}
use Rattle.mf_edition.specs.Edition.{edition_of}
use Rattle.mf_edition.specs.Sizes.{most_bytes, most_entries, used_by}
use Rattle.mf_flight.specs.declared.slot.Slot.{Slot}
use Rattle.mf_flight.specs.declared.slot.State.TheVariants.{Claimed}
use Rattle.mf_flight.specs.Slots.{fresh}
use Rattle.mf_legal.specs.Calls.{made_by}
use Rattle.mf_core.specs.declared.event.Event.{Event}
use Rattle.mf_core.specs.Worlds.{away, new_world, World, is_live}
use Rattle.mf_core.specs.Steps.{most_callers}
use Rattle.mf_core.specs.Runs.{after}

-- the numbers that a caller's entries have, in the order of the log
abbrev pub numbers_of : ℕ → List Entry → List ℕ
numbers_of n [] = []
numbers_of n (entry ∷ log) = if entry.caller == n then entry.nth ∷ numbers_of n log else numbers_of n log

-- the numbers from 1 to one
abbrev pub one_to : ℕ → List ℕ
one_to zero = []
one_to (suc n) = one_to n ++ (n + 1) ∷ []

-- a joined caller's entries are as many as its made count, every caller's are numbered from 1 in order, and every entry's caller is below
-- the next number, from which on nobody is joined
pub record AreNumbered (log : List Entry) (next : ℕ) (joined : ℕ → Bool) (made : ℕ → ℕ) : Type 0 where
  pub made_count : (n : ℕ) → joined n ≡ true → made n ≡ made_by n log
  pub in_order : (n : ℕ) → numbers_of n log ≡ one_to (made_by n log)
  pub below : (n : ℕ) → next ≤ n → made_by n log ≡ 0
  pub later : (n : ℕ) → next ≤ n → joined n ≡ false

-- a pin is at most seen, and seen at most the number of editions
pub record AreSeen (editions : ℕ) (seen : ℕ → ℕ) (pinned : ℕ → Option ℕ) : Type 0 where
  pub pin : (n e : ℕ) → pinned n ≡ Some e → e ≤ seen n
  pub most : (n : ℕ) → seen n ≤ editions

-- a claim is on a claimed entry of the caller's pinned edition, and each claimed entry is claimed by exactly one caller
pub record AreClaimed (pinned : ℕ → Option ℕ) (claim : ℕ → Option (ℕ × ℕ)) (slot : ℕ → ℕ → Slot (Unit {0})) : Type 0 where
  pub entry : (n e i : ℕ) → claim n ≡ Some (e, i) → (pinned n ≡ Some e) × ((slot e i).state ≡ Claimed)
  pub one : (n m e i : ℕ) → claim n ≡ Some (e, i) → claim m ≡ Some (e, i) → n ≡ m
  pub some : (e i : ℕ) → (slot e i).state ≡ Claimed → (n : ℕ) × (claim n ≡ Some (e, i))

-- what holds of every World
pub record Valid (w : World) : Type 0 where
  pub numbers : AreNumbered w.log w.next (λ n. (w.caller n).joined) (λ n. (w.caller n).made)
  pub left : (n : ℕ) → (w.caller n).joined ≡ false → w.caller n ≡ away
  -- the log, the store and the callers are within their limits
  pub few : length w.log ≤ most_entries
  pub small : used_by w.log ≤ most_bytes
  pub callers : w.next ≤ most_callers
  pub seen : AreSeen (length w.log) (λ n. (w.caller n).seen) (λ n. (w.caller n).pinned)
  pub claims : AreClaimed (λ n. (w.caller n).pinned) (λ n. (w.caller n).claim) w.slot
  -- each entry is of a live edition, and its index is below that edition's length
  pub live : (e i : ℕ) → is_live w e ≡ false → w.slot e i ≡ fresh
  pub inside : (e i : ℕ) → length (edition_of w.log e).items ≤ i → w.slot e i ≡ fresh

-- a fact holds of the new World, and each event keeps it
pub record IsInductive (P : World → Type 0) : Type 0 where
  pub first : P new_world
  pub next : (w : World) (event : Event) → P w → P (after w event)
