use Rattle.std.proofs.Common.{◌<◌, sym, subst}
use Rattle.mf_answer.specs.Answers.{IsAnswerIn}
use Rattle.mf_session.proofs.Answering.{old_reply}
use Rattle.mf_transcript.specs.Replies.{IsFormatReply}
use Rattle.mf_wire.specs.declared.reply.Reply.TheVariants.{NotYet}
use Rattle.mf_history.proofs.answer.answer.Goals as goal

pub returns-then-number-since-clause-reply : goal.returns-then-number-since-clause-reply
returns-then-number-since-clause-reply c =
    let edition = c.args.edition.now in
    subst (λ number. IsFormatReply (IsAnswerIn edition.number edition c.args.tag.now c.args.id.now c.args.arguments.now c.args.since) edition.number (NotYet number c.args.since)) (sym c.number-number.ensures)
    (old_reply edition.number edition c.args.tag.now c.args.id.now c.args.arguments.now c.args.since
    (subst (λ number. number < c.args.since) c.number-number.ensures c.if-number-since.true))
