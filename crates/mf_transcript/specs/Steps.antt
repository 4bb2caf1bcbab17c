-- What one line of a caller's and its reply say over a log.
use Rattle.std.specs.Prelude.{◌≡◌, ◌+◌, ◌<◌, ◌≤◌, ℕ, List, ◌++◌, length, take, Some, Result, Ok, Err}
use Rattle.mf_text.specs.declared.arguments.Argued.{Argued}
use Rattle.mf_answer.specs.Answers.{IsAnswer}
use Rattle.mf_edition.specs.Edition.{edition_of}
use Rattle.mf_edition.specs.Sizes.{refusal_of}
use Rattle.mf_edition.specs.declared.change.Change.{Change}
use Rattle.mf_edition.specs.declared.change.Entry.{Entry}
use Rattle.mf_edition.specs.declared.error.Refusal.{Refusal}
use Rattle.mf_legal.specs.Calls.{entry_at}
use Rattle.mf_wire.specs.Replies.{memory_line, op_of, reply_line}
use Rattle.mf_wire.specs.declared.reply.Reply.{Reply}
use Rattle.mf_wire.specs.declared.reply.Reply.TheVariants as reply
use Rattle.mf_wire.specs.declared.request.Request.{Request}
use Rattle.mf_wire.specs.declared.request.Request.TheVariants.{Format, Lint, Publish, Stat}
use Rattle.mf_transcript.specs.Asked.{request_of}
use Rattle.mf_transcript.specs.Replies.{refusal_reply, IsFormatReply, IsLineOf, IsLintReply}
use Rattle.mf_transcript.specs.Served.{count_among, in_edition, served_by, with_edition}

-- a line that is refused has its refusal, and one that asks what there is to say of a source has that, whatever the log
abbrev pub ApartFor : Result Request Reply → List ℕ → Type 0
ApartFor (Err refusal) said = said ≡ reply_line refusal
ApartFor (Ok (Lint source)) said = IsLineOf (IsLintReply source) said
ApartFor (Ok (Publish change)) said = ⊥
ApartFor (Ok (Format tag id arguments since)) said = ⊥
ApartFor (Ok Stat) said = ⊥

-- the line is refused, or asks what there is to say of a source, and the reply is its defined line
abbrev pub IsApart : List ℕ → List ℕ → Type 0
IsApart line said = ApartFor (request_of line) said

-- the line publishes the change, and the reply accepts it as edition k
pub record Accepts (line : List ℕ) (change : Change) (k : ℕ) (said : List ℕ) : Type 0 where
  pub asked : request_of line ≡ Ok (Publish change)
  pub replied : said ≡ reply_line (reply.Accepted k (op_of change))

-- the line publishes a change that edition k of the log has no room for, by its entries or by its bytes, and the reply says so
pub record Refuses (log : List Entry) (k : ℕ) (line said : List ℕ) : Type 0 where
  pub change : Change
  pub refusal : Refusal
  pub asked : request_of line ≡ Ok (Publish change)
  pub due : refusal_of (take k log) change ≡ Some refusal
  pub replied : said ≡ reply_line (refusal_reply refusal)

-- the line asks for a sentence, and the reply is the answer at edition k of the log
pub record Answers (log : List Entry) (k : ℕ) (line said : List ℕ) : Type 0 where
  pub tag : List ℕ
  pub id : List ℕ
  pub arguments : List (List ℕ × Argued)
  pub since : ℕ
  pub asked : request_of line ≡ Ok (Format tag id arguments since)
  pub replied : IsLineOf (IsFormatReply (IsAnswer log k tag id arguments since) k) said

-- the line asks for the counts, and the reply has those of edition k
pub record Counts (log : List Entry) (k : ℕ) (served : List ℕ) (line said : List ℕ) : Type 0 where
  pub starts : ℕ
  pub quits : ℕ
  pub asked : request_of line ≡ Ok Stat
  pub replied : said ≡ reply_line (reply.Stat k starts quits)
  -- starts less quits: no fewer than the messages that were served, each counted once, and no more than the edition has
  pub least : quits + count_among served (length (edition_of log k).items) ≤ starts
  pub most : starts ≤ quits + length (edition_of log k).items

-- where a caller stands
pub record Standing : Type 0 where
  -- the edition that it has seen
  pub edition : ℕ
  -- how many entries it has made
  pub made : ℕ
  -- the messages that its lines were answered from, each with its edition
  pub served : List (ℕ × ℕ)

-- a caller's next entry
abbrev pub next_entry : ℕ → ℕ → Change → Entry
next_entry caller made change = record { caller = caller; nth = made + 1; change = change }

-- the caller has made edition k
abbrev pub makes : Standing → ℕ → Standing
makes before k = record { edition = k; made = before.made + 1; served = before.served }

-- the caller has seen edition k
abbrev pub sees : Standing → ℕ → Standing
sees before k = record { edition = k; made = before.made; served = before.served }

-- the caller has seen edition k, and was answered from these messages of it
abbrev pub gets : Standing → ℕ → List ℕ → Standing
gets before k indexes =
    record { edition = k; made = before.made; served = before.served ++ with_edition k indexes }

-- how a line and its reply take a caller on
pub data Step (log : List Entry) (caller : ℕ) (line said : List ℕ) (before : Standing) : Standing → Type 0 where
  -- the reply is the memory line
  no_memory : said ≡ memory_line → Step log caller line said before before
  -- the line is refused, or asks what there is to say of a source
  stands_apart : IsApart line said → Step log caller line said before before
  -- the line is a publication, accepted as an edition above the one seen, whose entry is the caller's next with that change
  is_accepted : (change : Change) (k : ℕ) → Accepts line change k said → before.edition < k → k ≤ length log
      → entry_at log k ≡ Some (next_entry caller before.made change) → Step log caller line said before (makes before k)
  -- the line is a publication, refused at an edition from the one seen on
  is_refused : (k : ℕ) → Refuses log k line said → before.edition ≤ k → k ≤ length log
      → Step log caller line said before (sees before k)
  -- the line asks for a sentence, and is answered at an edition from the one seen on
  is_answered : (k : ℕ) → Answers log k line said → before.edition ≤ k → k ≤ length log
      → Step log caller line said before (gets before k (served_by log k line))
  -- the line asks for the counts, and has those of an edition from the one seen on
  is_counted : (k : ℕ) → Counts log k (in_edition k before.served) line said → before.edition ≤ k → k ≤ length log
      → Step log caller line said before (sees before k)

-- which of these cases it is
abbrev pub case_of : {log : List Entry} {caller : ℕ} {line said : List ℕ} {before after : Standing}
    → Step log caller line said before after → ℕ
case_of (no_memory is) = 1
case_of (stands_apart is) = 2
case_of (is_accepted change k is above within entry) = 3
case_of (is_refused k is from within) = 4
case_of (is_answered k is from within) = 5
case_of (is_counted k is from within) = 6
