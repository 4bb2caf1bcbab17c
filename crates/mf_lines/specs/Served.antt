-- Lines answered one after the other.
use Rattle.std.specs.Prelude.{◌≡◌, ℕ, List, [], ◌∷◌, ◌++◌}
use Rattle.std.specs.List.{flat_map}
use Rattle.mf_wire.specs.Lines.{line_feed}

-- what it is that a line is answered by a reply, from one state to the next
abbrev pub Answering : Type 0 → Type 1
Answering State = State → List ℕ → List ℕ → State → Type 0

-- what it is that lines are answered by replies, from one state to the next
abbrev pub Serving : Type 0 → Type 1
Serving State = State → List (List ℕ) → List (List ℕ) → State → Type 0

-- each line has its reply, and the state goes from one to the next
abbrev pub Served : {State : Type 0} → Answering State → Serving State
Served Answers state [] [] after = after ≡ state
Served Answers state [] (reply ∷ replies) after = ⊥
Served Answers state (line ∷ lines) [] after = ⊥
Served {State} Answers state (line ∷ lines) (reply ∷ replies) after =
    (between : State) × Answers state line reply between × Served Answers between lines replies after

-- a line or a reply with its line feed
abbrev pub ended : List ℕ → List ℕ
ended line = line ++ line_feed ∷ []

-- lines or replies as they are written
abbrev pub written : List (List ℕ) → List ℕ
written lines = flat_map ended lines
