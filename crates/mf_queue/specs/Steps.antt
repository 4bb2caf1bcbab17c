-- What each step tells the seat that makes it.
use Rattle.std.specs.Prelude.{◌≡◌, ◌≢◌, ℕ, ◌+◌, ◌^◌, ◌<◌, [], ◌∷◌}
use mathlib.Core.Option.{some}
use Rattle.atomic_table.specs.Table.{Step}
use Rattle.std.specs.declared.snapshot.Snapshot.{Snapshot}
use Rattle.mf_queue.specs.declared.parts.Item.{Item}
use Rattle.mf_queue.specs.declared.parts.Item.TheVariants.{Home, Coming}
use Rattle.mf_queue.specs.declared.parts.Stage.TheVariants.{Idle, Waiting, Holding}
use Rattle.mf_queue.specs.Queue.{Sitter}

module _ {T A V : Type 0} where
  -- where the word was as expected, the seat has drawn that place
  abbrev pub Draws : Step (Item T A) → Sitter T A V → ℕ → Sitter T A V → Type 0
  Draws step me found me' =
      (me'.0.view ≡ me.0.view)
      × (me'.1 ≡ me.1)
      × (found ≡ step.first → me'.0.stage ≡ Waiting found)
      × (found ≢ step.first → me'.0.stage ≡ me.0.stage)

  -- the seat has the slot out, with the value in it
  abbrev pub Takes : (V → ℕ → T → V → Type 0) → ℕ → Sitter T A V → Sitter T A V → Type 0
  Takes then p me me' = (x : T) × (count : ℕ) × (mark : Snapshot A) × (me'.0.stage ≡ Holding p (x, count)) × (me'.1 ≡ (0, Home x mark) ∷ me.1) × then me.0.view count x me'.0.view

  -- at its place the seat takes the slot, else nothing happens
  abbrev pub Looks : (V → ℕ → T → V → Type 0) → Step (Item T A) → Sitter T A V → ℕ → Sitter T A V → Type 0
  Looks then step me found me' = (p : ℕ) → me.0.stage ≡ Waiting p → (found ≡ p → Takes then p me me') × (found ≢ p → me' ≡ me)

  -- the turn is over, and the slot is back with the value that lay in it
  abbrev pub Ends : (V → ℕ → T → A → T → V → Type 0) → Step (Item T A) → Sitter T A V → ℕ → Sitter T A V → Type 0
  Ends then step me found me' = (p : ℕ) (x : T) (count : ℕ) (y : T) (mark : Snapshot A) → me.0.stage ≡ Holding p (x, count) → me.1 ≡ (0, Home y mark) ∷ []
      → (me'.0.stage ≡ Idle) × (me'.1 ≡ []) × then me.0.view count x mark.value y me'.0.view

  -- the count was found
  abbrev pub Counts : (V → ℕ → T → V → Type 0) → Step (Item T A) → Sitter T A V → ℕ → Sitter T A V → Type 0
  Counts then step me found me' = (me'.0.stage ≡ me.0.stage) × (me'.1 ≡ me.1) × ((x : T) × then me.0.view found x me'.0.view)

  -- the holder found the count that it knows, which can be raised
  abbrev pub Stands : Step (Item T A) → Sitter T A V → ℕ → Sitter T A V → Type 0
  Stands step me found me' = (me' ≡ me) × ((p : ℕ) (x : T) (count : ℕ) → me.0.stage ≡ Holding p (x, count) → (found ≡ count) × (count + 1 < 2 ^ 64))

  -- the count is one more, and the holder knows it
  abbrev pub Raises : (V → ℕ → T → T → V → Type 0) → Step (Item T A) → Sitter T A V → ℕ → Sitter T A V → Type 0
  Raises then step me found me' = (p : ℕ) (x : T) (count : ℕ) (y : Snapshot T) → me.0.stage ≡ Holding p (x, count) → step.first ≡ count → step.said ≡ some (Coming y)
      → (me'.0.stage ≡ Holding p (x, count + 1)) × (me'.1 ≡ me.1) × then me.0.view count x y.value me'.0.view
