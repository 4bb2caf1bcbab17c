-- What lines and replies do where callers share a log: what a caller knows before and after.
use Rattle.std.specs.Prelude.{◌≡◌, ◌+◌, ◌≤◌, ℕ, List, length, Contains, None, Ok, Some, Option}
use Rattle.std.specs.List.{AllByRecursion}
use Rattle.mf_edition.specs.Sizes.{refusal_of}
use Rattle.mf_edition.specs.declared.change.Change.{Change}
use Rattle.mf_edition.specs.declared.error.Refusal.{Refusal}
use Rattle.mf_hub.specs.Passes.{Grows, Keeps, Known, PassState, Publishes, Tells}
use Rattle.mf_hub.specs.declared.stat.Stat.{Stat}
use Rattle.mf_io.specs.declared.bounds.Caps.{Caps}
use Rattle.mf_io.specs.declared.statuses.Status.{Status}
use Rattle.mf_io.specs.declared.statuses.Status.TheVariants.{Ended, InputFull, LineTooLong, ListenFault, OutOfMemory, ReadFault, Usage, WriteFault}
use Rattle.mf_legal.specs.Calls.{one_if}
use Rattle.mf_legal.specs.Histories.{forgone, ShowAtMost}
use Rattle.mf_lines.specs.Sessions.{Breaks, Ends, Fills, Overruns, Stops}
use Rattle.mf_text.specs.declared.arguments.Argued.{Argued}
use Rattle.mf_answer.specs.Answers.{IsAnswer, IsAnswerIn, IsAnswerOf}
use Rattle.mf_edition.specs.Edition.{edition_of, EditionState}
use Rattle.mf_edition.specs.declared.item.Found.{Found}
use Rattle.mf_transcript.specs.Asked.{request_of}
use Rattle.mf_transcript.specs.Lines.{asks_format, exchanges_of, line_service, ShowsAtMost}
use Rattle.mf_transcript.specs.Replies.{refusal_reply, IsFormatReply}
use Rattle.mf_transcript.specs.Served.{served_by, served_to, with_edition}
use Rattle.mf_transcript.specs.Steps.{Accepts, Answers, IsApart, Refuses}
use Rattle.mf_transcript.specs.Transcripts.{Transcript}
use Rattle.mf_turn.specs.Sums.{StartsWith}
use Rattle.mf_wire.specs.Replies.{memory_line, op_of, reply_line}
use Rattle.mf_wire.specs.declared.reply.Reason.{Reason}
use Rattle.mf_wire.specs.declared.reply.Reply.{Reply}
use Rattle.mf_wire.specs.declared.reply.Reply.TheVariants as reply
use Rattle.mf_wire.specs.declared.request.Request.TheVariants.{Stat as AskStat}
use Rattle.mf_session.specs.Turns.{stat_reply}

-- nobody left into it, and it gave at most so many tickets back
pub record GivesAtMost (many : ℕ) (p q : Known) : Type 0 where
  pub ended : q.ended ≡ p.ended
  pub least : p.given ≤ q.given
  pub most : q.given ≤ p.given + many

-- a line and its reply: every reply is that of an edition from the one seen on, or accepts a later one
pub data Call (line said : List ℕ) (p q : Known) : Type 0 where
  -- the reply is the memory line: a request for a sentence alone may have given its ticket back
  no_memory : said ≡ memory_line → Grows p q → GivesAtMost (one_if (asks_format (request_of line))) p q → Call line said p q
  -- the line is refused, or asks what there is to say of a source, and the reply shows no quits
  stands_apart : IsApart line said → ((most : ℕ) → ShowsAtMost most said) → q ≡ p → Call line said p q
  -- the line is a publication that there was room for
  is_accepted : (change : Change) (k : ℕ) → Accepts line change k said → Publishes change k p q → Keeps p q → Call line said p q
  -- the line is a publication that there was no room for
  is_refused : Refuses q.log (length q.log) line said → Grows p q → Keeps p q → Call line said p q
  -- the line asks for a sentence, and is answered at an edition that was pinned, from a plan that the caller was served with
  is_answered : (k : ℕ) → Answers q.log k line said → length p.log ≤ k → k ≤ length q.log
      → AllByRecursion (Contains q.served) (with_edition k (served_by q.log k line)) → Grows p q → Keeps p q → Call line said p q
  -- the line asks for the counts
  is_counted : (stat : Stat) → request_of line ≡ Ok AskStat → said ≡ reply_line (stat_reply stat) → Tells stat q → Grows p q → Keeps p q
      → Call line said p q

-- a caller that had no pin has none
abbrev pub StaysFree : Known → Known → Type 0
StaysFree p q = p.pin ≡ None → q.pin ≡ None

-- the same, of a pass, which stays one of its hub, and of which no pin is left when the reply is written
abbrev pub Calls : PassState → List ℕ → List ℕ → PassState → Type 0
Calls p line said q = (q.hub ≡ p.hub) × StaysFree p.view q.view × Call line said p.view q.view

-- the lines of a caller and their replies: they are its transcript over the log that it has seen at the end, from the edition on that
-- it had seen before; it was served with the plan of every message that they were answered from; and no reply shows more quits than it
-- was told
pub record Told (p : PassState) (lines replies : List (List ℕ)) (q : PassState) : Type 0 where
  pub number : ℕ
  pub own : p.view.number ≡ Some number
  pub same : q.view.number ≡ Some number
  pub log : StartsWith q.view.log p.view.log
  pub transcript : Transcript number q.view.log (length p.view.log) lines replies
  pub served : AllByRecursion (Contains q.view.served) transcript.end.served
  pub quits : ShowAtMost line_service q.view.heard (exchanges_of lines replies)
  pub gives : GivesAtMost (forgone line_service (exchanges_of lines replies)) p.view q.view

-- the pass that comes back has no pin and no claim
pub record IsFree (q : Known) : Type 0 where
  pub pin : q.pin ≡ None
  pub claim : q.claim ≡ None

-- what a session comes to, by its status: where nothing was read, the caller has at most seen more
module _ (caps : Caps) (p q : PassState) (left left' taken taken' : Option (List ℕ)) where
  abbrev pub SharedOutcome : Status → (Unread Unwritten : Type 0) → Type 0
  SharedOutcome Ended Unread Unwritten = Ends Told caps p q left left' taken taken'
  SharedOutcome ReadFault Unread Unwritten = Breaks Told caps p q left left' taken taken'
  SharedOutcome WriteFault Unread Unwritten = Stops Told caps p q left left' taken taken'
  SharedOutcome LineTooLong Unread Unwritten = Overruns Told caps p q left left' taken taken'
  SharedOutcome InputFull Unread Unwritten = Fills Told caps p q left left' taken taken'
  SharedOutcome OutOfMemory Unread Unwritten = Unread × Unwritten × Grows p.view q.view × Keeps p.view q.view
  SharedOutcome Usage Unread Unwritten = ⊥
  SharedOutcome ListenFault Unread Unwritten = ⊥

-- For private clauses: what becomes of a publication, and of a request for a sentence.

-- the change is published, or there is no room for it
pub data SharesChange (change : Change) (said : List ℕ) (p q : Known) : Type 0 where
  accepts : (k : ℕ) → said ≡ reply_line (reply.Accepted k (op_of change)) → Publishes change k p q → Keeps p q
      → SharesChange change said p q
  refuses : (refusal : Refusal) → refusal_of q.log change ≡ Some refusal → said ≡ reply_line (refusal_reply refusal) → Grows p q → Keeps p q
      → SharesChange change said p q

-- the same, unless there is a reason against it
abbrev pub SharesUnless : Option Reason → Change → List ℕ → Known → Known → Type 0
SharesUnless None change said p q = SharesChange change said p q
SharesUnless (Some reason) change said p q = (said ≡ reply_line (reply.BadHandler reason)) × (q ≡ p)

-- the reply is the answer of an edition from the one seen on, and the caller was served with the plan of the message that it is of
pub record Shows (tag id : List ℕ) (arguments : List (List ℕ × Argued)) (since : ℕ) (reply : Reply) (p q : Known) : Type 0 where
  pub k : ℕ
  pub from : length p.log ≤ k
  pub within : k ≤ length q.log
  pub replied : IsFormatReply (IsAnswer q.log k tag id arguments since) k reply
  pub served : AllByRecursion (Contains q.served) (with_edition k (served_to q.log k tag id since))
  pub grows : Grows p q
  pub keeps : Keeps p q

-- nothing was done, or something without memory
pub record Misses (many : ℕ) (p q : Known) : Type 0 where
  pub grows : Grows p q
  pub gives : GivesAtMost many p q

-- the edition is the one that the caller has pinned
pub record IsPinned (edition : EditionState) (p : Known) : Type 0 where
  pub pin : p.pin ≡ Some edition.number
  pub within : edition.number ≤ length p.log
  pub is : edition ≡ edition_of p.log edition.number

-- the reply is the answer of this edition, and the caller was served with the plan of the message that it is of
pub record ShowsAt (edition : EditionState) (tag id : List ℕ) (arguments : List (List ℕ × Argued)) (since : ℕ) (reply : Reply) (p q : Known) : Type 0 where
  pub replied : IsFormatReply (IsAnswerIn edition.number edition tag id arguments since) edition.number reply
  pub served : AllByRecursion (Contains q.served) (with_edition edition.number (served_to p.log edition.number tag id since))
  pub grows : Grows p q
  pub keeps : Keeps p q

-- the reply is the answer of a message that was found in this edition, and the caller was served with its plan
pub record ShowsFound (edition : EditionState) (found : Found) (arguments : List (List ℕ × Argued)) (reply : Reply) (p q : Known) : Type 0 where
  pub replied : IsFormatReply (IsAnswerOf arguments edition found) edition.number reply
  pub served : Contains q.served (edition.number, found.index)
  pub grows : Grows p q
  pub keeps : Keeps p q
