-- What a rehearsal does.
use Rattle.std.specs.Prelude.{◌≡◌, ◌+◌, ◌^◌, ◌<◌, ◌≤◌, ℕ, List, length, Option}
use Rattle.std.specs.Io.KnownBytes.{Appends, Consumes, IsAtEnd}
use Rattle.std.specs.List.{AllByRecursion}
use Rattle.mf_edition.specs.declared.change.Entry.{Entry}
use Rattle.mf_io.specs.Known.{TakesFront}
use Rattle.mf_io.specs.declared.bounds.Caps.{Caps}
use Rattle.mf_io.specs.declared.statuses.Status.{Status}
use Rattle.mf_io.specs.declared.statuses.Status.TheVariants.{Ended, InputFull, LineTooLong, ListenFault, OutOfMemory, ReadFault, Usage, WriteFault}
use Rattle.mf_lines.specs.Cut.{IsCut, IsLine, IsTooLong}
use Rattle.mf_lines.specs.Served.{written}
use Rattle.mf_transcript.specs.Lines.{IsLegal}
use Rattle.mf_wire.specs.Lines.{lines_of}
use Rattle.mf_rehearse.specs.Prints.{print}
use Rattle.mf_rehearse.specs.Scripts.{callers_in, requests_of}

-- the output has the replies to each caller's requests, and a log, with which they make one legal history
pub record IsRehearsal (lines : List (List ℕ)) (output : List ℕ) : Type 0 where
  pub log : List Entry
  pub replies : ℕ → List (List ℕ)
  pub each : (caller : ℕ) → length (replies caller) ≡ length (requests_of caller lines)
  pub legal : IsLegal log (callers_in lines + 1) (λ caller. requests_of caller lines) replies
  pub is : output ≡ print (callers_in lines) replies log

-- a whole input was taken, fewer bytes than the cap, and none of its lines is too long
pub record ReadsScript (caps : Caps) (left left' : Option (List ℕ)) : Type 0 where
  pub input : List ℕ
  pub consumed : Consumes left left' input
  pub end : IsAtEnd left'
  pub below : length input < caps.input
  pub each : AllByRecursion (IsLine caps.line) (lines_of input)

-- and a rehearsal of it was written whole
pub record RehearsesWhole (caps : Caps) (left left' taken taken' : Option (List ℕ)) : Type 0 where
  pub script : ReadsScript caps left left'
  pub output : List ℕ
  pub rehearsal : IsRehearsal (lines_of script.input) output
  pub sent : Appends taken taken' output

-- or a front of one
pub record RehearsesInPart (caps : Caps) (left left' taken taken' : Option (List ℕ)) : Type 0 where
  pub script : ReadsScript caps left left'
  pub output : List ℕ
  pub rehearsal : IsRehearsal (lines_of script.input) output
  pub sent : TakesFront taken taken' output

-- what was taken where reading stopped: whole lines, none of them too long, and what follows them
pub record StopsReading (caps : Caps) (left left' : Option (List ℕ)) (Rest : List ℕ → List ℕ → Type 0) : Type 0 where
  pub input : List ℕ
  pub rest : List ℕ
  pub consumed : Consumes left left' input
  pub lines : List (List ℕ)
  pub cut : IsCut caps.line input lines rest
  pub is : Rest input rest

-- a line of a script has at most 1,048,576 bytes, and its input fewer than 16,777,216
abbrev pub rehearse_caps : Caps
rehearse_caps = record { line = 2 ^ 20; input = 2 ^ 24 }

-- how reading stopped, by the status: where there was no memory, nothing is said of what was taken
module _ (caps : Caps) (left left' : Option (List ℕ)) where
  abbrev pub StopsAt : Status → Type 0
  StopsAt ReadFault = StopsReading caps left left' (λ input rest. (length input < caps.input) × IsLine caps.line rest)
  StopsAt LineTooLong = StopsReading caps left left' (λ input rest. (length input ≤ caps.input) × IsTooLong caps.line rest)
  StopsAt InputFull = StopsReading caps left left' (λ input rest. (length input ≡ caps.input) × IsLine caps.line rest)
  StopsAt OutOfMemory = Unit {0}
  StopsAt Ended = ⊥
  StopsAt WriteFault = ⊥
  StopsAt Usage = ⊥
  StopsAt ListenFault = ⊥

-- the lines of a whole input, each with its line feed
pub record ReadsLines (caps : Caps) (lines : List ℕ) (left left' : Option (List ℕ)) : Type 0 where
  pub script : ReadsScript caps left left'
  pub is : lines ≡ written (lines_of script.input)

-- what was done, by the status: where reading stopped, and where there was no memory, nothing was written
module _ (caps : Caps) (left left' taken taken' : Option (List ℕ)) where
  abbrev pub Rehearses : Status → (Unwritten : Type 0) → Type 0
  Rehearses Ended Unwritten = RehearsesWhole caps left left' taken taken'
  Rehearses WriteFault Unwritten = RehearsesInPart caps left left' taken taken'
  Rehearses ReadFault Unwritten = StopsAt caps left left' ReadFault × Unwritten
  Rehearses LineTooLong Unwritten = StopsAt caps left left' LineTooLong × Unwritten
  Rehearses InputFull Unwritten = StopsAt caps left left' InputFull × Unwritten
  Rehearses OutOfMemory Unwritten = Unwritten
  Rehearses Usage Unwritten = ⊥
  Rehearses ListenFault Unwritten = ⊥
