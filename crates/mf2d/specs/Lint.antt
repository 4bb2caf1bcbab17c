-- What the command `lint` does.
use Rattle.std.specs.Prelude.{◌≡◌, ◌⊎◌, ◌+◌, ◌^◌, ◌<◌, ℕ, List, chars, codes, length, Option}
use Rattle.std.specs.Bool.{MatchBool}
use Rattle.std.specs.Io.KnownBytes.{Appends, Consumes, IsAtEnd}
use Rattle.std.specs.Str.{is_utf8}
use Rattle.mf_io.specs.Known.{ConsumesBelow, ConsumesJust, TakesFront}
use Rattle.mf_io.specs.declared.statuses.Status.{Status}
use Rattle.mf_io.specs.declared.statuses.Status.TheVariants.{Ended, InputFull, LineTooLong, ListenFault, OutOfMemory, ReadFault, Usage, WriteFault}
use Rattle.mf_lines.specs.Served.{ended}
use Rattle.mf_transcript.specs.Replies.{IsLineOf, IsLintReply}
use Rattle.mf_wire.specs.Replies.{memory_line}

-- the line for bytes that are no UTF-8
abbrev pub bad_utf8_line : List ℕ
bad_utf8_line = codes "{\"error\":\"bad-utf8\"}"

-- the line for bytes: the reply of the source that they are, if they are UTF-8
abbrev pub LintsInput : List ℕ → List ℕ → Type 0
LintsInput input line =
    MatchBool (is_utf8 input) (IsLineOf (IsLintReply (chars input)) line) (line ≡ bad_utf8_line)

-- the same, or the memory line, which comes where there was no memory for it
abbrev pub LintAnswered : List ℕ → List ℕ → Type 0
LintAnswered input line = (line ≡ memory_line) ⊎ LintsInput input line

-- the bytes at which it stops reading: an input has fewer
abbrev pub lint_cap : ℕ
lint_cap = 2 ^ 20 + 1

-- the line of an input was written whole
pub record LintsWhole (input : List ℕ) (taken taken' : Option (List ℕ)) : Type 0 where
  pub line : List ℕ
  pub answered : LintAnswered input line
  pub sent : Appends taken taken' (ended line)

-- a front of the line of an input was written
pub record LintsInPart (input : List ℕ) (taken taken' : Option (List ℕ)) : Type 0 where
  pub line : List ℕ
  pub answered : LintAnswered input line
  pub sent : TakesFront taken taken' (ended line)

-- the whole input was taken, and something was done with it
pub record ReadsWhole (Does : List ℕ → Type 0) (left left' : Option (List ℕ)) : Type 0 where
  pub input : List ℕ
  pub taken : Consumes left left' input
  pub at_end : IsAtEnd left'
  pub below : length input < lint_cap
  pub does : Does input

-- what was done, by the status: nothing was read, or nothing was written, where it says so
abbrev pub Lints : Status → (Unread Unwritten : Type 0) → (left left' taken taken' : Option (List ℕ)) → Type 0
Lints Ended Unread Unwritten left left' taken taken' = ReadsWhole (λ input. LintsWhole input taken taken') left left'
Lints WriteFault Unread Unwritten left left' taken taken' = ReadsWhole (λ input. LintsInPart input taken taken') left left'
Lints ReadFault Unread Unwritten left left' taken taken' = ConsumesBelow lint_cap left left' × Unwritten
Lints LineTooLong Unread Unwritten left left' taken taken' = ConsumesJust lint_cap left left' × Unwritten
Lints OutOfMemory Unread Unwritten left left' taken taken' = Unread × Unwritten
Lints InputFull Unread Unwritten left left' taken taken' = ⊥
Lints Usage Unread Unwritten left left' taken taken' = ⊥
Lints ListenFault Unread Unwritten left left' taken taken' = ⊥
