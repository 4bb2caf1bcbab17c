-- The rule of a queue, and what clauses say of a seat.
use Rattle.std.specs.Prelude.{◌≡◌, ℕ, List, [], ◌∷◌, map, Option, Some, None}
use Rattle.atomic_table.specs.Table.{State, Me}
use Rattle.atomic_table.specs.declared.shared.Seat.{Seat}
use Rattle.std.specs.declared.snapshot.Snapshot.{Snapshot}
use Rattle.mf_queue.specs.declared.parts.Item.{Item}
use Rattle.mf_queue.specs.declared.parts.Item.TheVariants.{Away, Home}
use Rattle.mf_queue.specs.declared.parts.Knowledge.{Knowledge}
use Rattle.mf_queue.specs.declared.parts.Stage.{Stage}
use Rattle.mf_queue.specs.declared.parts.Stage.TheVariants.{Idle, Waiting, Holding}
use Rattle.mf_queue.specs.Line.{Line}

module _ {T V : Type 0} where
  abbrev pub standing : Stage (T × ℕ) → V → Knowledge T V
  standing stage view = record { stage = stage; view = view }

  abbrev pub idle : V → Knowledge T V
  idle view = standing Idle view

  abbrev pub stage_of : Knowledge T V → Stage (T × ℕ)
  stage_of k = k.stage

  abbrev pub view_of : Knowledge T V → V
  view_of k = k.view

module _ {T : Type 0} where
  -- what was taken, with the count
  abbrev pub taken_at : Stage (T × ℕ) → Option (T × ℕ)
  taken_at Idle = None
  taken_at (Waiting p) = None
  taken_at (Holding p x) = Some x

  -- something was taken, and this holds of the value and the count
  abbrev pub Holds : Option (T × ℕ) → (T → ℕ → Type 0) → Type 0
  Holds None P = ⊥
  Holds (Some x) P = P x.0 x.1

-- how the value lies in the slot, whatever the count
abbrev pub at_home : {T A : Type 0} → T × ℕ → Snapshot A → Item T A
at_home x done = Home x.0 done

-- Word 0 is the number of places drawn, word 1 that of the places served, and word 2 the count
pub record Queued {T A V : Type 0} (holds : ℕ → T → Option ℕ → List V → Type 0) (s : State (Item T A) (Knowledge T V)) : Type 0 where
  pub drawn : ℕ
  pub served : ℕ
  pub count : ℕ
  pub value : T
  pub holder : Option ℕ
  pub words : s.words ≡ drawn ∷ served ∷ count ∷ []
  pub line : Line stage_of at_home 0 s.homes s.views drawn served (value, count) holder
  pub client : holds count value holder (map view_of s.views)

module _ {T A : Type 0} where
  -- whoever holds the turn has the slot out, empty; a seat waits within `take` alone
  abbrev pub Rests : Stage (T × ℕ) → List (ℕ × Item T A) → Type 0
  Rests Idle out = out ≡ []
  Rests (Waiting p) out = ⊥
  Rests (Holding p x) out = out ≡ (0, Away) ∷ []

-- a seat, as a step sees it
abbrev pub Sitter : Type 0 → Type 0 → Type 0 → Type 0
Sitter T A V = Me (Item T A) (Knowledge T V)

module _ {T A V : Type 0} where
  -- what the client's rule sees of a seat
  abbrev pub view : Seat (Item T A) (Knowledge T V) → V
  view seat = seat.me.0.view

  -- what the seat took and hasn't given back, with the count
  abbrev pub taken : Seat (Item T A) (Knowledge T V) → Option (T × ℕ)
  taken seat = taken_at seat.me.0.stage

  -- no call is at work with the seat
  abbrev pub IsAtRest : Seat (Item T A) (Knowledge T V) → Type 0
  IsAtRest seat = Rests seat.me.0.stage seat.me.1

  abbrev pub IsWaiting : Seat (Item T A) (Knowledge T V) → ℕ → Type 0
  IsWaiting seat p = (seat.me.0.stage ≡ Waiting p) × (seat.me.1 ≡ [])

  abbrev pub IsSameSeat : Seat (Item T A) (Knowledge T V) → Seat (Item T A) (Knowledge T V) → Type 0
  IsSameSeat seat seat' = (seat'.table_id ≡ seat.table_id) × (seat'.id ≡ seat.id)
