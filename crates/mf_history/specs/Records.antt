-- When a log, and what its callers sent and got, make a legal history.
use Rattle.std.specs.Prelude.{◌==◌, ◌+◌, ℕ, List, [], ◌∷◌, ◌++◌, map, max, encode_utf8_all, if◌then◌else◌}
use Rattle.mf_edition.specs.declared.change.Entry.{Entry}
use Rattle.mf_legal.specs.Calls as legal
use Rattle.mf_legal.specs.Histories.{all_forgone}
use Rattle.mf_transcript.specs.Lines.{exchanges_of, line_service, IsLegal}
use Rattle.mf_history.specs.declared.transcript.Exchange.{Exchange}
use Rattle.mf_history.specs.declared.transcript.Transcript.{Transcript}

-- the lines that were sent
abbrev pub lines_in : List Exchange → List (List ℕ)
lines_in exchanges = map (λ exchange. exchange.request) exchanges

-- the lines that came back
abbrev pub replies_in : List Exchange → List (List ℕ)
replies_in exchanges = map (λ exchange. encode_utf8_all exchange.reply) exchanges

-- what was sent and got, as exchanges of bytes
abbrev pub bytes_of : List Exchange → List (legal.Exchange (List ℕ) (List ℕ))
bytes_of exchanges = exchanges_of (lines_in exchanges) (replies_in exchanges)

-- the lines of a transcript, where it is this caller's
abbrev pub lines_if : ℕ → Transcript → List Exchange
lines_if caller transcript = if transcript.caller == caller then transcript.lines else []

-- what a caller sent and got: its transcripts, one behind the other
abbrev pub said_by : ℕ → List Transcript → List Exchange
said_by caller [] = []
said_by caller (transcript ∷ transcripts) = lines_if caller transcript ++ said_by caller transcripts

-- a number above that of each caller that has a transcript
abbrev pub callers_of : List Transcript → ℕ
callers_of [] = 0
callers_of (transcript ∷ transcripts) = max (transcript.caller + 1) (callers_of transcripts)

-- how many requests for sentences found no memory
abbrev pub forgone_in : List Transcript → ℕ
forgone_in transcripts = all_forgone line_service (λ caller. bytes_of (said_by caller transcripts)) (callers_of transcripts)

-- a log and transcripts make a legal history
abbrev pub IsLegalRecord : List Entry → List Transcript → Type 0
IsLegalRecord log transcripts =
    IsLegal log (callers_of transcripts) (λ caller. lines_in (said_by caller transcripts)) (λ caller. replies_in (said_by caller transcripts))
