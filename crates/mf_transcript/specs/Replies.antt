-- The replies to what a line asks for, and the lines that they are.
use Rattle.std.specs.Prelude.{◌≡◌, ℕ, Bool, true, false, List}
use Rattle.mf_lint.specs.Lint.{Lints}
use Rattle.mf_lint.specs.declared.linting.Linted.{Linted}
use Rattle.mf_lint.specs.declared.linting.Linted.TheVariants.{Invalid, Valid}
use Rattle.mf_answer.specs.Answers as answers
use Rattle.mf_answer.specs.Answers.{Answer}
use Rattle.mf_edition.specs.declared.error.Refusal.{Refusal}
use Rattle.mf_edition.specs.declared.error.Refusal.TheVariants as refused
use Rattle.mf_wire.specs.Replies.{reply_line}
use Rattle.mf_wire.specs.declared.reply.Reply.{Reply}
use Rattle.mf_wire.specs.declared.reply.Reply.TheVariants.{Accepted, BadHandler, BadJson, BadLocale, BadRequest, EditionsFull, Formatted, LintInvalid, LintValid, NoMessage, NotYet, Stat, StoreFull, TooLong}

-- a refusal of a publication
abbrev pub refusal_reply : Refusal → Reply
refusal_reply (refused.EditionsFull entries) = EditionsFull entries
refusal_reply (refused.StoreFull used size) = StoreFull used size

-- an answer of edition k
abbrev pub answer_reply : ℕ → Answer → Reply
answer_reply k (answers.not_yet since) = NotYet k since
answer_reply k answers.no_message = NoMessage k
answer_reply k answers.too_long = TooLong k
answer_reply k (answers.formatted tag parts faults) = Formatted k tag parts faults

-- what is said of a source: its canonical form, or the errors that make it invalid
abbrev pub lint_reply : Linted → Reply
lint_reply (Valid printed) = LintValid printed
lint_reply (Invalid faults) = LintInvalid faults

-- the reply is that of the answer
pub record IsFormatReply (Is : Answer → Type 0) (k : ℕ) (reply : Reply) : Type 0 where
  pub answer : Answer
  pub answered : Is answer
  pub is : reply ≡ answer_reply k answer

-- the reply says what is said of the source
pub record IsLintReply (source : List ℕ) (reply : Reply) : Type 0 where
  pub linted : Linted
  pub lints : Lints source linted
  pub is : reply ≡ lint_reply linted

-- the line is that of a reply which is due
pub record IsLineOf (IsDue : Reply → Type 0) (line : List ℕ) : Type 0 where
  pub reply : Reply
  pub due : IsDue reply
  pub written : line ≡ reply_line reply

-- whether a reply has the counts of an edition
abbrev pub shows_counts : Reply → Bool
shows_counts (Stat k starts quits) = true
shows_counts (Accepted k op) = false
shows_counts (Formatted k tag parts faults) = false
shows_counts (LintValid source) = false
shows_counts (LintInvalid faults) = false
shows_counts BadJson = false
shows_counts (BadRequest field) = false
shows_counts (BadLocale field rule) = false
shows_counts (BadHandler reason) = false
shows_counts (EditionsFull entries) = false
shows_counts (StoreFull used size) = false
shows_counts (NoMessage k) = false
shows_counts (NotYet k since) = false
shows_counts (TooLong k) = false
