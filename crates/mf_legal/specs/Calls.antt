-- Calls of several callers on one log of changes.
use Rattle.std.specs.Prelude.{◌+◌, ◌==◌, ℕ, zero, suc, Bool, List, [], ◌∷◌, Option, None, if◌then◌else◌}
use Rattle.std.specs.List.{filter, slice_get}
use Rattle.mf_edition.specs.declared.change.Change.{Change}
use Rattle.mf_edition.specs.declared.change.Entry.{Entry}

-- entry k of a log, counted from 1
abbrev pub entry_at : List Entry → ℕ → Option Entry
entry_at log zero = None
entry_at log (suc k) = slice_get log k

-- one where a test is true
abbrev pub one_if : Bool → ℕ
one_if test = if test then 1 else 0

-- how many entries of a log a caller made
abbrev pub made_by : ℕ → List Entry → ℕ
made_by caller [] = 0
made_by caller (entry ∷ log) = one_if (entry.caller == caller) + made_by caller log

-- a call is an accepted publication, a look at an edition, or apart from all editions
pub data Sort : Type 0 where
  publication : Change → Sort
  look : Sort
  apart : Sort

-- a call: its caller, its line and its reply, of which sort it is, and the edition that its caller has seen by it
pub record Call (Line Reply : Type 0) : Type 0 where
  pub caller : ℕ
  pub line : Line
  pub reply : Reply
  pub sort : Sort
  pub edition : ℕ

-- a line with its reply
pub record Exchange (Line Reply : Type 0) : Type 0 where
  pub line : Line
  pub reply : Reply

-- the line and the reply of a call
abbrev pub exchange_of : {Line Reply : Type 0} → Call Line Reply → Exchange Line Reply
exchange_of call = record { line = call.line; reply = call.reply }

-- whether a call is a caller's
abbrev pub is_of : {Line Reply : Type 0} → ℕ → Call Line Reply → Bool
is_of caller call = call.caller == caller

-- the calls of one caller among these
abbrev pub calls_of : {Line Reply : Type 0} → ℕ → List (Call Line Reply) → List (Call Line Reply)
calls_of caller calls = filter (is_of caller) calls

-- what lines and replies mean
pub record Service (Line Reply : Type 0) : Type 1 where
  -- the line publishes the change, and the reply accepts it as this edition
  pub Accepts : Line → Change → ℕ → Reply → Type 0
  -- the reply is one that this log gives to the line, where its caller had these calls before
  pub Looks : List Entry → List (Call Line Reply) → Line → Reply → Type 0
  -- the reply is that of the line, whatever the log
  pub Apart : Line → Reply → Type 0
  -- the reply says that there was no memory
  pub is_memory : Reply → Bool
  -- the line asks for a sentence
  pub is_format : Line → Bool
  -- the quits that the reply shows, if it shows some, are at most so many
  pub ShowsAtMost : ℕ → Reply → Type 0
