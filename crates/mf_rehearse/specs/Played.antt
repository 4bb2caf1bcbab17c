-- For private clauses: what is known of a caller that has sent its requests, and left.
use Rattle.std.specs.Prelude.{◌≡◌, ◌≤◌, ◌==◌, ℕ, List, [], ◌∷◌, if◌then◌else◌}
use Rattle.mf_edition.specs.declared.change.Entry.{Entry}
use Rattle.mf_hub.specs.Stores.{caller_of}
use Rattle.mf_legal.specs.Histories.{forgone, ShowAtMost}
use Rattle.mf_transcript.specs.Lines.{exchanges_of, line_service}
use Rattle.mf_transcript.specs.Transcripts.{Transcript}
use Rattle.mf_turn.specs.Account.{entries_by}
use Rattle.mf_turn.specs.Sums.{StartsWith}
use Rattle.mf_turn.specs.declared.view.Ended.{Ended}
use Rattle.mf_rehearse.specs.Scripts.{requests_of}

-- a caller's number, the replies that it got, the log that it had seen, how many entries it made, how many tickets it gave back, and
-- the most quits that it was told
pub record Part : Type 0 where
  pub number : ℕ
  pub replies : List (List ℕ)
  pub log : List Entry
  pub made : ℕ
  pub given : ℕ
  pub heard : ℕ

-- as the pass knows it that it left into
abbrev pub ended_of : Part → Ended
ended_of part = record { caller = part.number; made = part.made; given = part.given }

abbrev pub number_of : Part → ℕ
number_of part = part.number

-- it sent its requests among these lines, and its replies are its transcript over the log that it had seen
pub record Plays (lines : List (List ℕ)) (part : Part) : Type 0 where
  pub transcript : Transcript part.number part.log 0 (requests_of part.number lines) part.replies
  pub made : entries_by caller_of part.number part.log ≡ part.made
  pub given : part.given ≤ forgone line_service (exchanges_of (requests_of part.number lines) part.replies)
  pub quits : ShowAtMost line_service part.heard (exchanges_of (requests_of part.number lines) part.replies)

-- and whoever it left into has seen and heard no less
pub record PlaysInto (lines : List (List ℕ)) (log : List Entry) (heard : ℕ) (part : Part) : Type 0 where
  pub plays : Plays lines part
  pub seen : StartsWith log part.log
  pub told : part.heard ≤ heard

-- the replies to a caller among these
abbrev pub replies_of : List Part → ℕ → List (List ℕ)
replies_of [] caller = []
replies_of (part ∷ parts) caller = if part.number == caller then part.replies else replies_of parts caller
