-- A queue for one slot of a table: the places drawn, those served, and the value in the slot or with the seat whose turn it is.
use Rattle.std.specs.Prelude.{◌≡◌, ℕ, ◌^◌, ◌<◌, ◌≤◌, List, length, Option, Some, None}
use mathlib.Core.Option.{some}
use mathlib.Core.Option as maybe
use lib.ListN.{get_elem?}
use Rattle.mf_queue.specs.declared.parts.Stage.{Stage}
use Rattle.mf_queue.specs.declared.parts.Stage.TheVariants.{Idle, Waiting, Holding}

module _ {X : Type 0} where
  -- the seat has this place
  abbrev pub HasPlace : ℕ → Stage X → Type 0
  HasPlace place Idle = ⊥
  HasPlace place (Waiting p) = p ≡ place
  HasPlace place (Holding p x) = p ≡ place

  -- what the queue owes to where a seat stands: a place is from the served ones on, below the drawn ones, and its owner's.
  -- Only the seat whose place is the next one to be served can hold the turn, and it has the value as it was taken
  abbrev pub Agrees : ℕ → ℕ → X → Option ℕ → (ℕ → ℕ) → ℕ → Stage X → Type 0
  Agrees drawn served value holder owner seat Idle = Unit {0}
  Agrees drawn served value holder owner seat (Waiting p) = (served ≤ p) × (p < drawn) × (owner p ≡ seat)
  Agrees drawn served value holder owner seat (Holding p x) =
      (p ≡ served) × (p < drawn) × (owner p ≡ seat) × (holder ≡ Some seat) × (x ≡ value)

-- S is what lies in slots, K what a seat knows; kept: how the value lies in the slot, beside some mark
module _ {X A S K : Type 0} (stage_of : K → Stage X) (kept : X → A → S) (slot : ℕ) where
  -- the place is that of this seat
  abbrev pub IsAt : List K → ℕ → ℕ → Type 0
  IsAt seats place seat = (k : K) × (get_elem? seats seat ≡ some k) × HasPlace place (stage_of k)

  -- where nobody holds the turn, the value is at home; else the holder has it as it was taken
  abbrev pub Lies : List (maybe.Option S) → List K → X → Option ℕ → Type 0
  Lies homes seats value None = (mark : A) × (get_elem? homes slot ≡ some (some (kept value mark)))
  Lies homes seats value (Some seat) = (k : K) × (p : ℕ) × (get_elem? seats seat ≡ some k) × (stage_of k ≡ Holding p value)

  pub record Line (homes : List (maybe.Option S)) (seats : List K) (drawn served : ℕ) (value : X) (holder : Option ℕ) : Type 0 where
    -- whose each place is
    pub owner : ℕ → ℕ
    pub has_slot : slot < length homes
    pub small : drawn < 2 ^ 64
    pub behind : served ≤ drawn
    pub placed : (p : ℕ) → served ≤ p → p < drawn → IsAt seats p (owner p)
    pub lies : Lies homes seats value holder
    pub agrees : (seat : ℕ) (k : K) → get_elem? seats seat ≡ some k → Agrees drawn served value holder owner seat (stage_of k)
