-- A source and a sink in memory, as their callers see them.
use Rattle.std.specs.Prelude.{◌≡◌, ℕ, List, [], ◌∷◌, ◌++◌, length, take, drop, min, map, vec_items, Contains, ◌<◌, IfSome, slice_get}
use Rattle.std.specs.Global.{Vec}
use Rattle.mf_io.specs.Faults.{next_count}

-- the numbers of the calls that fail, how many calls there were, and how many of them failed
pub record Calls : Type 0 where
  pub failing : List ℕ
  pub made : ℕ
  pub faults : ℕ

-- the next call is one of those that fail
abbrev pub NextFails : Calls → Type 0
NextFails calls = Contains calls.failing (next_count calls.made)

-- after one more call that didn't fail
abbrev pub passed : Calls → Calls
passed calls = record calls { made = next_count calls.made }

-- after one more call that failed
abbrev pub failed : Calls → Calls
failed calls = record calls { made = next_count calls.made; faults = next_count calls.faults }

-- no call yet
abbrev pub no_calls : List ℕ → Calls
no_calls failing = record { failing = failing; made = 0; faults = 0 }

-- the pieces that a source still gives, the rest of the one at hand first, and its calls
pub record Supply : Type 0 where
  pub pieces : List (List ℕ)
  pub calls : Calls

-- the piece at hand: the first that isn't empty, and nothing at the end
abbrev pub at_hand : List (List ℕ) → List ℕ
at_hand [] = []
at_hand ([] ∷ pieces) = at_hand pieces
at_hand ((byte ∷ bytes) ∷ pieces) = byte ∷ bytes

-- the pieces after n bytes of the piece at hand
abbrev pub past_front : ℕ → List (List ℕ) → List (List ℕ)
past_front n [] = []
past_front n ([] ∷ pieces) = past_front n pieces
past_front n ((byte ∷ bytes) ∷ pieces) = drop n (byte ∷ bytes) ∷ pieces

-- a read put the front of the piece at hand into the buffer, as much as both hold, and the source has the rest
pub record GivesFront (old new : Supply) (before now : List ℕ) (n : ℕ) : Type 0 where
  pub count : n ≡ min (length (at_hand old.pieces)) (length before)
  pub given : now ≡ take n (at_hand old.pieces) ++ drop n before
  pub left : new ≡ record { pieces = past_front n old.pieces; calls = passed old.calls }

-- the bytes that a sink holds, the most that a write takes, and its calls
pub record Intake : Type 0 where
  pub taken : List ℕ
  pub most : ℕ
  pub calls : Calls

-- a write took the front of the piece, as much as it takes at most
pub record TakesMost (old new : Intake) (piece : List ℕ) (n : ℕ) : Type 0 where
  pub count : n ≡ min (length piece) old.most
  pub holds : new ≡ record { taken = old.taken ++ take n piece; most = old.most; calls = passed old.calls }

-- the bytes of each of these vectors
abbrev pub bytes_of : List (Vec ℕ) → List (List ℕ)
bytes_of vectors = map vec_items vectors

-- the pieces without the first n bytes of the first
abbrev pub without_front : ℕ → List (List ℕ) → List (List ℕ)
without_front n [] = []
without_front n (first ∷ rest) = drop n first ∷ rest

-- the pieces that are left from a place on: the number of a vector, and a byte in it
abbrev pub pieces_from : ℕ → ℕ → List (Vec ℕ) → List (List ℕ)
pieces_from number byte vectors = without_front byte (bytes_of (drop number vectors))

-- a place from which the same bytes are left as in these pieces, and where a byte stands if a vector does
pub record IsNextByte (vectors : List (Vec ℕ)) (number byte : ℕ) (left : List (List ℕ)) : Type 0 where
  pub same_hand : at_hand (pieces_from number byte vectors) ≡ at_hand left
  pub same_past : (n : ℕ) → past_front n (pieces_from number byte vectors) ≡ past_front n left
  pub inside : IfSome (slice_get vectors number) (λ vector. byte < length (vec_items vector))
