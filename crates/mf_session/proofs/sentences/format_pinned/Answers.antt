use Rattle.std.proofs.Common.{◌<◌, subst, sym}
use Rattle.mf_answer.specs.Answers.{IsAnswerIn}
use Rattle.mf_transcript.specs.Replies.{IsFormatReply}
use Rattle.mf_wire.specs.declared.reply.Reply.TheVariants.{NotYet}
use Rattle.mf_session.proofs.Answering.{old_reply}
use Rattle.mf_session.proofs.Shows.{shows_early}
use Rattle.mf_session.proofs.sentences.format_pinned.Goals as goal

pub returns-then-number-since-clause-ok : goal.returns-then-number-since-clause-ok
returns-then-number-since-clause-ok g c =
    let edition = c.args.edition.now in
    let early = subst (λ n. n < c.args.since) c.number-number.ensures c.if-number-since.true in
    shows_early c.args.tag.now c.args.id.now c.args.arguments.now c.args.since (NotYet c.number-number.result c.args.since) edition c.args.pass.now.view
    c.requires.pinned early
    (subst (λ n. IsFormatReply (IsAnswerIn edition.number edition c.args.tag.now c.args.id.now c.args.arguments.now c.args.since) edition.number (NotYet n c.args.since))
    (sym c.number-number.ensures)
    (old_reply edition.number edition c.args.tag.now c.args.id.now c.args.arguments.now c.args.since early))
