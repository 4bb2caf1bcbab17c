-- Whether a log and transcripts make a legal history, and the first line that doesn't fit.
use Rattle.std.specs.Prelude.{◌+◌, ◌-◌, ◌<◌, ◌≤◌, ℕ, List, length, take}
use Rattle.mf_edition.specs.declared.change.Entry.{Entry}
use Rattle.mf_legal.specs.Histories.{ShowAtMost}
use Rattle.mf_transcript.specs.Lines.{line_service}
use Rattle.mf_transcript.specs.Steps.{Standing}
use Rattle.mf_transcript.specs.Transcripts.{stands_at, Steps}
use Rattle.mf_transcript.specs.Transcripts as lines
use Rattle.mf_history.specs.Records.{bytes_of, forgone_in, lines_in, replies_in, said_by, IsLegalRecord}
use Rattle.mf_history.specs.declared.transcript.Exchange.{Exchange}
use Rattle.mf_history.specs.declared.transcript.Transcript.{Transcript}
use Rattle.mf_history.specs.declared.verdict.Verdict.{Verdict}
use Rattle.mf_history.specs.declared.verdict.Verdict.TheVariants.{Yes, No}

-- lines and their replies take a caller on over a log, and no reply shows more quits than this
pub record Takes (most : ℕ) (log : List Entry) (caller : ℕ) (exchanges : List Exchange) (before after : Standing) : Type 0 where
  pub steps : Steps log caller (lines_in exchanges) (replies_in exchanges) before after
  pub quits : ShowAtMost line_service most (bytes_of exchanges)

-- these lines of a caller fit, whatever comes behind them
pub record Begins (most : ℕ) (log : List Entry) (caller : ℕ) (exchanges : List Exchange) : Type 0 where
  pub after : Standing
  pub takes : Takes most log caller exchanges (stands_at caller log 0) after

-- all lines of a caller fit, and claim all of its entries
pub record Fits (most : ℕ) (log : List Entry) (caller : ℕ) (exchanges : List Exchange) : Type 0 where
  pub transcript : lines.Transcript caller log 0 (lines_in exchanges) (replies_in exchanges)
  pub quits : ShowAtMost line_service most (bytes_of exchanges)

-- the place, from 1, of a caller's first line that doesn't fit: those before it do, and with it they don't; behind the last line, where an
-- entry of the caller's is claimed by none
pub record FirstUnfit (most : ℕ) (log : List Entry) (caller : ℕ) (exchanges : List Exchange) (place : ℕ) : Type 0 where
  pub some : 1 ≤ place
  pub within : place ≤ length exchanges + 1
  pub front : Begins most log caller (take (place - 1) exchanges)
  pub unfit : place ≤ length exchanges → Begins most log caller (take place exchanges) → ⊥
  pub whole : Fits most log caller exchanges → ⊥

-- the caller is the first whose lines don't fit, and this is the place of its first one
pub record IsFirstMisfit (log : List Entry) (transcripts : List Transcript) (caller place : ℕ) : Type 0 where
  pub illegal : IsLegalRecord log transcripts → ⊥
  pub before : (other : ℕ) → other < caller → Fits (forgone_in transcripts) log other (said_by other transcripts)
  pub here : FirstUnfit (forgone_in transcripts) log caller (said_by caller transcripts) place

-- yes, they make a legal history; or no, and the first misfit
abbrev pub IsVerdict : List Entry → List Transcript → Verdict → Type 0
IsVerdict log transcripts Yes = IsLegalRecord log transcripts
IsVerdict log transcripts (No caller place) = IsFirstMisfit log transcripts caller place
