-- What a client owes at each step: one fact about the count, the value, the holder and the views.
use Rattle.std.specs.Prelude.{◌≡◌, ◌≢◌, ℕ, ◌+◌, ◌^◌, ◌<◌, List, [], ◌∷◌, ◌++◌, length, slice_set, Option, Some, None}
use mathlib.Core.Option.{some}
use lib.ListN.{get_elem?}

module _ {T V : Type 0} (holds : ℕ → T → Option ℕ → List V → Type 0) where
  -- the seat takes the value
  abbrev pub MayTake : ℕ → V → (V → ℕ → T → V → Type 0) → Type 0
  MayTake seat v then = (count : ℕ) (x : T) (views : List V) → holds count x None views → get_elem? views seat ≡ some v
      → (w : V) × holds count x (Some seat) (slice_set views seat w) × then v count x w

  -- the seat that took x gives y, to which this was done
  abbrev pub MayGive : {A : Type 0} → ℕ → V → ℕ → T → A → T → (V → ℕ → T → A → T → V → Type 0) → Type 0
  MayGive seat v count x done y then = (views : List V) → holds count x (Some seat) views → get_elem? views seat ≡ some v
      → (w : V) × holds count y None (slice_set views seat w) × then v count x done y w

  -- the seat that took x raises the count, for y
  abbrev pub MayRaise : ℕ → V → ℕ → T → T → (V → ℕ → T → T → V → Type 0) → Type 0
  MayRaise seat v count x y then = (views : List V) → holds count x (Some seat) views → get_elem? views seat ≡ some v
      → (w : V) × (count + 1 < 2 ^ 64) × holds (count + 1) x (Some seat) (slice_set views seat w) × then v count x y w

  -- the seat reads the count
  abbrev pub MayCount : ℕ → V → (V → ℕ → T → V → Type 0) → Type 0
  MayCount seat v then = (count : ℕ) (x : T) (holder : Option ℕ) (views : List V) → holds count x holder views → get_elem? views seat ≡ some v
      → (w : V) × holds count x holder (slice_set views seat w) × then v count x w

  -- the view v becomes left, and a new seat has right
  abbrev pub MaySplit : ℕ → V → V → V → Type 0
  MaySplit seat v left right = (count : ℕ) (x : T) (holder : Option ℕ) (views : List V) → holds count x holder views → holder ≢ Some (length views) → get_elem? views seat ≡ some v
      → holds count x holder (slice_set views seat left ++ right ∷ [])

  -- the view v becomes both, and the other seat's, which was u, is spent
  abbrev pub MayJoin : ℕ → V → ℕ → V → V → V → Type 0
  MayJoin seat v other u both spent = (count : ℕ) (x : T) (holder : Option ℕ) (views : List V) → holds count x holder views → holder ≢ Some other
      → get_elem? views seat ≡ some v → ¬ (other ≡ seat) → get_elem? (slice_set views seat both) other ≡ some u
      → holds count x holder (slice_set (slice_set views seat both) other spent)
