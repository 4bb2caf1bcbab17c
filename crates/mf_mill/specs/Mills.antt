-- What a large run does.
use Rattle.std.specs.Prelude.{◌≡◌, ℕ, List, Option}
use Rattle.std.specs.Io.KnownBytes.{Appends}
use Rattle.mf_hub.specs.Desks.{empty_desk}
use Rattle.mf_io.specs.Known.{TakesFront}
use Rattle.mf_io.specs.declared.statuses.Status.{Status}
use Rattle.mf_io.specs.declared.statuses.Status.TheVariants.{Ended, InputFull, LineTooLong, ListenFault, OutOfMemory, ReadFault, Usage, WriteFault}
use Rattle.mf_lines.specs.Served.{ended, written}
use Rattle.mf_transcript.specs.Laws.{HasNoMemoryLine}
use Rattle.mf_transcript.specs.Sole.{Desk, Sole}
use Rattle.mf_wire.specs.Lines.{lines_of}
use Rattle.mf_mill.specs.Scripts.{script}
use Rattle.mf_mill.specs.Summaries.{summary}

-- the lines of an input were answered at a desk at which nothing was published, and these are the replies as they are written
pub record IsAnswered (input output : List ℕ) : Type 0 where
  pub replies : List (List ℕ)
  pub after : Desk
  pub served : Sole empty_desk (lines_of input) replies after
  pub is : output ≡ written replies

-- the line sums up what the script of so many requests is answered, and no reply is the memory line
pub record IsSummary (n : ℕ) (line : List ℕ) : Type 0 where
  pub output : List ℕ
  pub answered : IsAnswered (script n) output
  pub no_memory : HasNoMemoryLine (lines_of output)
  pub is : line ≡ summary n (lines_of output)

-- that line was written whole
pub record MillsWhole (n : ℕ) (taken taken' : Option (List ℕ)) : Type 0 where
  pub line : List ℕ
  pub summary : IsSummary n line
  pub sent : Appends taken taken' (ended line)

-- a front of it was
pub record MillsInPart (n : ℕ) (taken taken' : Option (List ℕ)) : Type 0 where
  pub line : List ℕ
  pub summary : IsSummary n line
  pub sent : TakesFront taken taken' (ended line)

-- what was done, by the status: the line was written, or a front of it, or there was no memory and nothing was written
abbrev pub Mills : ℕ → Status → (Unwritten : Type 0) → (taken taken' : Option (List ℕ)) → Type 0
Mills n Ended Unwritten taken taken' = MillsWhole n taken taken'
Mills n WriteFault Unwritten taken taken' = MillsInPart n taken taken'
Mills n OutOfMemory Unwritten taken taken' = Unwritten
Mills n ReadFault Unwritten taken taken' = ⊥
Mills n LineTooLong Unwritten taken taken' = ⊥
Mills n InputFull Unwritten taken taken' = ⊥
Mills n Usage Unwritten taken taken' = ⊥
Mills n ListenFault Unwritten taken taken' = ⊥
