-- What answering an input, line by line, comes to.
use Rattle.std.specs.Prelude.{◌≡◌, ◌⊎◌, ◌<◌, ◌≤◌, ℕ, List, ◌++◌, length, Option}
use Rattle.std.specs.Io.KnownBytes.{Appends, Consumes, IsAtEnd}
use Rattle.std.specs.List.{AllByRecursion}
use Rattle.mf_io.specs.declared.bounds.Caps.{Caps}
use Rattle.mf_io.specs.declared.statuses.Status.{Status}
use Rattle.mf_io.specs.declared.statuses.Status.TheVariants.{Ended, InputFull, LineTooLong, ListenFault, OutOfMemory, ReadFault, Usage, WriteFault}
use Rattle.mf_wire.specs.Lines.{lines_of}
use Rattle.mf_lines.specs.Cut.{IsCut, IsLine, IsTooLong}
use Rattle.mf_lines.specs.Served.{written, Serving}

-- With what it is that lines are answered, the state before and after, and the bytes that a sink had taken, where it tells them.
module _ {State : Type 0} (Serves : Serving State) (before after : State) (taken taken' : Option (List ℕ)) where
  -- the lines were answered, and every reply was written whole
  pub record AnswersAll (lines : List (List ℕ)) : Type 0 where
    pub replies : List (List ℕ)
    pub served : Serves before lines replies after
    pub sent : Appends taken taken' (written replies)

  -- the lines were answered; every reply but the last begun was written whole, and of that one a front
  pub record AnswersInPart (lines : List (List ℕ)) : Type 0 where
    pub whole : List (List ℕ)
    pub begun : List (List ℕ)
    pub one : length begun ≤ 1
    pub served : Serves before lines (whole ++ begun) after
    pub front : List ℕ
    pub unsent : List ℕ
    pub cut : front ++ unsent ≡ written begun
    pub sent : Appends taken taken' (written whole ++ front)

-- And with the caps, and the bytes that a source had left, where it tells them.
module _ {State : Type 0} (Serves : Serving State) (caps : Caps) (before after : State) (left left' taken taken' : Option (List ℕ)) where
  -- the whole input was taken, fewer bytes than the cap, and each of its lines was answered: what follows the last line feed is
  -- one too, where it isn't empty
  pub record Ends : Type 0 where
    pub input : List ℕ
    pub consumed : Consumes left left' input
    pub end : IsAtEnd left'
    pub below : length input < caps.input
    pub each : AllByRecursion (IsLine caps.line) (lines_of input)
    pub answers : AnswersAll Serves before after taken taken' (lines_of input)

  -- an input was taken, and the whole lines in front of what follows were answered
  pub record Takes (input rest : List ℕ) : Type 0 where
    pub consumed : Consumes left left' input
    pub lines : List (List ℕ)
    pub cut : IsCut caps.line input lines rest
    pub answers : AnswersAll Serves before after taken taken' lines

  -- fewer bytes than the cap were taken, all whole lines among them were answered, and none was too long
  pub record Breaks : Type 0 where
    pub input : List ℕ
    pub rest : List ℕ
    pub takes : Takes input rest
    pub below : length input < caps.input
    pub short : IsLine caps.line rest

  -- as many bytes as the cap were taken, all whole lines among them were answered, and none was too long
  pub record Fills : Type 0 where
    pub input : List ℕ
    pub rest : List ℕ
    pub takes : Takes input rest
    pub full : length input ≡ caps.input
    pub short : IsLine caps.line rest

  -- a line was too long, and the lines in front of it were answered
  pub record Overruns : Type 0 where
    pub input : List ℕ
    pub rest : List ℕ
    pub takes : Takes input rest
    pub within : length input ≤ caps.input
    pub long : IsTooLong caps.line rest

  -- some lines at the front of what was taken were answered: whole ones, or all, where the end was told
  pub record Stops : Type 0 where
    pub input : List ℕ
    pub lines : List (List ℕ)
    pub rest : List ℕ
    pub consumed : Consumes left left' input
    pub within : length input ≤ caps.input
    pub cut : IsCut caps.line input lines rest ⊎ ((lines ≡ lines_of input) × AllByRecursion (IsLine caps.line) lines × IsAtEnd left')
    pub answers : AnswersInPart Serves before after taken taken' lines

  -- what was done, by the status that it ends with: nothing was read and nothing written where there was no memory to begin with
  abbrev pub Outcome : Status → (Unread Unwritten : Type 0) → Type 0
  Outcome Ended Unread Unwritten = Ends
  Outcome ReadFault Unread Unwritten = Breaks
  Outcome WriteFault Unread Unwritten = Stops
  Outcome LineTooLong Unread Unwritten = Overruns
  Outcome InputFull Unread Unwritten = Fills
  Outcome OutOfMemory Unread Unwritten = Unread × Unwritten × (after ≡ before)
  Outcome Usage Unread Unwritten = ⊥
  Outcome ListenFault Unread Unwritten = ⊥
