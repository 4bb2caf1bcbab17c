-- What a line and its reply do at the desk of one caller.
use Rattle.std.specs.Prelude.{◌≡◌, ◌+◌, ℕ, false, List, length, None, Ok}
use Rattle.mf_edition.specs.Sizes.{refusal_of}
use Rattle.mf_edition.specs.declared.change.Change.{Change}
use Rattle.mf_hub.specs.Desks.{published, stat_of, Forgoes, Gains}
use Rattle.mf_hub.specs.declared.stat.Stat.{Stat}
use Rattle.mf_transcript.specs.Asked.{request_of}
use Rattle.mf_transcript.specs.Lines.{asks_format}
use Rattle.mf_transcript.specs.Served.{served_by}
use Rattle.mf_transcript.specs.Sole.{Desk}
use Rattle.mf_transcript.specs.Steps.{Accepts, Answers, IsApart, Refuses}
use Rattle.mf_wire.specs.Replies.{memory_line, reply_line}
use Rattle.mf_wire.specs.declared.reply.Reply.{Reply}
use Rattle.mf_wire.specs.declared.reply.Reply.TheVariants as reply
use Rattle.mf_wire.specs.declared.request.Request.TheVariants.{Stat as AskStat}

-- the reply with these counts
abbrev pub stat_reply : Stat → Reply
stat_reply stat = reply.Stat stat.edition stat.starts stat.quits

-- a line and its reply turn the desk: every reply is that of the newest edition, or accepts the next one
pub data Turn (line said : List ℕ) (before after : Desk) : Type 0 where
  -- the reply is the memory line: a request for a sentence alone may have one more quit
  no_memory : said ≡ memory_line → Forgoes before (served_by before.log (length before.log) line) after
      → (asks_format (request_of line) ≡ false → after.quits ≡ before.quits) → Turn line said before after
  -- the line is refused, or asks what there is to say of a source
  stands_apart : IsApart line said → after ≡ before → Turn line said before after
  -- the line is a publication that there is room for
  is_accepted : (change : Change) → Accepts line change (length before.log + 1) said → refusal_of before.log change ≡ None
      → after ≡ published before change → Turn line said before after
  -- the line is a publication that there is no room for
  is_refused : Refuses before.log (length before.log) line said → after ≡ before → Turn line said before after
  -- the line asks for a sentence, and the message that it is answered from is ready now
  is_answered : Answers before.log (length before.log) line said → Gains before (served_by before.log (length before.log) line) after
      → Turn line said before after
  -- the line asks for the counts
  is_counted : request_of line ≡ Ok AskStat → said ≡ reply_line (stat_reply (stat_of before)) → after ≡ before
      → Turn line said before after

-- the same, from the desk before to the desk after
abbrev pub Turns : Desk → List ℕ → List ℕ → Desk → Type 0
Turns before line said after = Turn line said before after
