-- What holds of every log, and of whatever lines and replies mean.
use Rattle.std.specs.Prelude.{◌≡◌, ◌≤◌, ◌++◌, ℕ, List, [], length}
use Rattle.mf_edition.specs.declared.change.Entry.{Entry}
use Rattle.mf_legal.specs.Calls.{Exchange, made_by, Service}
use Rattle.mf_legal.specs.Transcripts.{Transcript}
use Rattle.mf_legal.specs.Histories.{all_forgone, Legal, ShowAtMost}

-- transcripts of callers below a number over one log make one legal history, where no reply shows more quits than there were requests for
-- sentences that found no memory
abbrev pub TranscriptsAreLegal : (Line Reply : Type 0) → Service Line Reply → Type 0
TranscriptsAreLegal Line Reply service =
    (log : List Entry) (callers : ℕ) (exchanges : ℕ → List (Exchange Line Reply))
    → ((caller : ℕ) → Transcript service caller log 0 (exchanges caller))
    → ((caller : ℕ) → callers ≤ caller → exchanges caller ≡ [])
    → ((caller : ℕ) → ShowAtMost service (all_forgone service exchanges callers) (exchanges caller))
    → Legal service log callers exchanges

-- in a legal history what each caller sent and got is its transcript
abbrev pub LegalHistoriesHaveTranscripts : (Line Reply : Type 0) → Service Line Reply → Type 0
LegalHistoriesHaveTranscripts Line Reply service =
    (log : List Entry) (callers : ℕ) (exchanges : ℕ → List (Exchange Line Reply))
    → Legal service log callers exchanges → (caller : ℕ) → Transcript service caller log 0 (exchanges caller)

-- a transcript over a log is one over each longer log in which its caller made nothing more
abbrev pub TranscriptsStay : (Line Reply : Type 0) → Service Line Reply → Type 0
TranscriptsStay Line Reply service =
    (log more : List Entry) (caller from : ℕ) (exchanges : List (Exchange Line Reply)) → from ≤ length log → made_by caller more ≡ 0
    → Transcript service caller log from exchanges → Transcript service caller (log ++ more) from exchanges
