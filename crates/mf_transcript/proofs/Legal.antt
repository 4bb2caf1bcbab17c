-- Transcripts of lines and replies, and legal histories.
use Rattle.std.proofs.Common.{◌≡◌, ℕ, List, [], ◌∷◌, ◌++◌, length, refl, ap, arith}
use Rattle.mf_edition.specs.declared.change.Entry.{Entry}
use Rattle.mf_legal.proofs.Growth.{transcripts_stay}
use Rattle.mf_legal.proofs.Histories.{transcripts_are_legal}
use Rattle.mf_legal.proofs.Transcripts.{legal_histories_have_transcripts}
use Rattle.mf_transcript.specs.Laws.{LegalHistoriesHaveTranscripts, TranscriptsAreLegal, TranscriptsStay}
use Rattle.mf_transcript.specs.Lines.{exchanges_of, line_service}
use Rattle.mf_transcript.specs.Steps.{Standing}
use Rattle.mf_transcript.specs.Transcripts.{Steps}
use Rattle.mf_transcript.proofs.Back.{calls_are}
use Rattle.mf_transcript.proofs.Calls.{of_calls}

pub lines_are_legal : TranscriptsAreLegal
lines_are_legal log callers lines replies transcripts none quits =
    transcripts_are_legal (List ℕ) (List ℕ) line_service log callers (λ caller. exchanges_of (lines caller) (replies caller))
    (λ caller. of_calls log caller 0 (lines caller) (replies caller) (transcripts caller))
    (λ caller more. ap (λ (l : List (List ℕ)). exchanges_of l (replies caller)) (none caller more))
    quits

pub legal_lines : LegalHistoriesHaveTranscripts
legal_lines log callers lines replies long legal caller =
    calls_are log caller 0 (lines caller) (replies caller) (long caller)
    (legal_histories_have_transcripts (List ℕ) (List ℕ) line_service log callers (λ c. exchanges_of (lines c) (replies c)) legal caller)

-- each line of a transcript has its reply
as_long : (log : List Entry) (caller : ℕ) (lines replies : List (List ℕ)) (before after : Standing)
    → Steps log caller lines replies before after → length lines ≡ length replies
as_long log caller [] [] before after steps = refl
as_long log caller [] (said ∷ replies) before after steps = absurd steps
as_long log caller (line ∷ lines) [] before after steps = absurd steps
as_long log caller (line ∷ lines) (said ∷ replies) before after steps =
    let rest = as_long log caller lines replies steps.0 after steps.2 in omega (arith, rest)

pub lines_stay : TranscriptsStay
lines_stay log more caller from lines replies low none transcript =
    calls_are (log ++ more) caller from lines replies (as_long log caller lines replies _ transcript.end transcript.steps)
    (transcripts_stay (List ℕ) (List ℕ) line_service log more caller from (exchanges_of lines replies) low none
    (of_calls log caller from lines replies transcript))
