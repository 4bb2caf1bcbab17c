-- What all lines of a caller's and their replies say over a log.
use Rattle.std.specs.Prelude.{◌≡◌, ◌≤◌, ℕ, List, [], ◌∷◌, length, take}
use Rattle.mf_edition.specs.declared.change.Entry.{Entry}
use Rattle.mf_legal.specs.Calls.{made_by}
use Rattle.mf_transcript.specs.Steps.{Standing, Step}

-- each line and its reply take the caller on, one after the other
abbrev pub Steps : List Entry → ℕ → List (List ℕ) → List (List ℕ) → Standing → Standing → Type 0
Steps log caller [] [] before after = after ≡ before
Steps log caller [] (reply ∷ replies) before after = ⊥
Steps log caller (line ∷ lines) [] before after = ⊥
Steps log caller (line ∷ lines) (reply ∷ replies) before after =
    (between : Standing) × Step log caller line reply before between × Steps log caller lines replies between after

-- a caller that has seen an edition of a log, and was answered from no message
abbrev pub stands_at : ℕ → List Entry → ℕ → Standing
stands_at caller log from = record { edition = from; made = made_by caller (take from log); served = [] }

-- what a caller sent and got over a log, from an edition on: its lines and replies lead to an edition of the log, and to all of its
-- entries
pub record Transcript (caller : ℕ) (log : List Entry) (from : ℕ) (lines replies : List (List ℕ)) : Type 0 where
  pub end : Standing
  pub steps : Steps log caller lines replies (stands_at caller log from) end
  pub within : end.edition ≤ length log
  pub all : end.made ≡ made_by caller log
