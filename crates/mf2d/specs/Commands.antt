-- The words of the command line, and what each command does.
use Rattle.std.specs.Prelude.{◌≡◌, ◌^◌, ◌&&◌, ℕ, nat_le, List, [], ◌∷◌, codes, decimal, encode_utf8_all, Option, Some, None, option_map, if◌then◌else◌}
use Rattle.std.specs.Str.{bytes_eq}
use Rattle.std.specs.Str.Parse.{digits_value}
use Rattle.mf_hub.specs.Desks.{empty_desk}
use Rattle.mf_io.specs.declared.bounds.Caps.{Caps}
use Rattle.mf_io.specs.declared.statuses.Status.{Status}
use Rattle.mf_io.specs.declared.statuses.Status.TheVariants as status
use Rattle.mf_lines.specs.Sessions as sessions
use Rattle.mf_transcript.specs.Sole.{Desk, Sole}
use Rattle.mf_mill.specs.Mills.{Mills}
use Rattle.mf2d.specs.Lint.{Lints}
use Rattle.mf2d.specs.declared.command.Command.{Command}
use Rattle.mf2d.specs.declared.command.Command.TheVariants.{Lint, Mill, Pipe}

-- the command that a word alone spells
abbrev pub command_named : List ℕ → Option Command
command_named word =
    if bytes_eq word (codes "pipe") then Some Pipe else
    (if bytes_eq word (codes "lint") then Some Lint else None)

-- a number whose decimal digits these are, without a leading zero, where it is from 1 to the most
abbrev pub count_spelled : ℕ → ℕ → List ℕ → Option ℕ
count_spelled most n digits = if bytes_eq digits (decimal n) && (nat_le 1 n && nat_le n most) then Some n else None

-- the count that bytes spell, of at most so many
abbrev pub count_of : ℕ → List ℕ → Option ℕ
count_of most digits = count_spelled most (digits_value 10 digits) digits

-- the command that a word and the bytes of a number spell
abbrev pub command_counted : List ℕ → List ℕ → Option Command
command_counted word number = if bytes_eq word (codes "mill") then option_map Mill (count_of 100000 number) else None

-- the command that the words after the program's name spell
abbrev pub command_of : List (List ℕ) → Option Command
command_of [] = None
command_of (word ∷ []) = command_named word
command_of (word ∷ number ∷ []) = command_counted word (encode_utf8_all number)
command_of (word ∷ number ∷ more ∷ words) = None

-- a line of `pipe` has at most 1,048,576 bytes, and its input fewer than 4,294,967,296
abbrev pub pipe_caps : Caps
pipe_caps = record { line = 2 ^ 20; input = 2 ^ 32 }

-- what `pipe` does: a session with the one caller of a desk at which nothing was published
pub record Pipes (status : Status) (Unread Unwritten : Type 0) (left left' taken taken' : Option (List ℕ)) : Type 0 where
  pub after : Desk
  pub outcome : sessions.Outcome Sole pipe_caps empty_desk after left left' taken taken' status Unread Unwritten

-- what a command does, by the status that it ends with; no command, which is status 1, reads and writes nothing
abbrev pub Outcome : Option Command → Status → (Unread Unwritten : Type 0) → (left left' taken taken' : Option (List ℕ)) → Type 0
Outcome (Some Pipe) status Unread Unwritten left left' taken taken' = Pipes status Unread Unwritten left left' taken taken'
Outcome (Some Lint) status Unread Unwritten left left' taken taken' = Lints status Unread Unwritten left left' taken taken'
Outcome (Some (Mill count)) status Unread Unwritten left left' taken taken' = Mills count status Unwritten taken taken' × Unread
Outcome None ended Unread Unwritten left left' taken taken' = (ended ≡ status.Usage) × Unread × Unwritten
