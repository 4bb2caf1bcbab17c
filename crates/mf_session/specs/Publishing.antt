-- For private clauses: what becomes of a publication at the desk of one caller.
use Rattle.std.specs.Prelude.{◌≡◌, ◌+◌, ℕ, List, length, Option, None, Some}
use Rattle.mf_edition.specs.Sizes.{refusal_of}
use Rattle.mf_edition.specs.declared.change.Change.{Change}
use Rattle.mf_edition.specs.declared.error.Refusal.{Refusal}
use Rattle.mf_hub.specs.Desks.{published}
use Rattle.mf_transcript.specs.Replies.{refusal_reply}
use Rattle.mf_transcript.specs.Sole.{Desk}
use Rattle.mf_wire.specs.Replies.{op_of, reply_line}
use Rattle.mf_wire.specs.declared.reply.Reason.{Reason}
use Rattle.mf_wire.specs.declared.reply.Reply.TheVariants as reply

-- the change is published, or there is no room for it
pub data Publishes (change : Change) (said : List ℕ) (before after : Desk) : Type 0 where
  accepts : said ≡ reply_line (reply.Accepted (length before.log + 1) (op_of change)) → refusal_of before.log change ≡ None
      → after ≡ published before change → Publishes change said before after
  refuses : (refusal : Refusal) → refusal_of before.log change ≡ Some refusal → said ≡ reply_line (refusal_reply refusal)
      → after ≡ before → Publishes change said before after

-- the same, unless there is a reason against it
abbrev pub PublishesUnless : Option Reason → Change → List ℕ → Desk → Desk → Type 0
PublishesUnless None change said before after = Publishes change said before after
PublishesUnless (Some reason) change said before after = (said ≡ reply_line (reply.BadHandler reason)) × (after ≡ before)
