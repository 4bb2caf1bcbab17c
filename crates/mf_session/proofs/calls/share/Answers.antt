use Rattle.std.proofs.Common.{◌∙◌, ap, encode_utf8_all}
use Rattle.std.proofs.lemmas.Result.{IfOk-weaker}
use Rattle.mf_wire.specs.Replies.{reply_line}
use Rattle.mf_wire.specs.declared.reply.Reply.TheVariants.{Accepted}
use Rattle.mf_session.specs.Sharing.{accepts}
use Rattle.mf_session.proofs.Sharings.{refused_line}
use Rattle.mf_session.proofs.calls.share.Goals as goal

pub returns-in-Ok-clause-ok : goal.returns-in-Ok-clause-ok
returns-in-Ok-clause-ok g c =
    accepts c.in-Ok.edition (c.line.ensures ∙ ap (λ op. reply_line (Accepted c.in-Ok.edition op)) c.in_ok-accepted.ensures) c.in-Ok.ensures.published
    c.publish.ensures.keeps

pub returns-in_ok-refused-in-Err-clause-ok : goal.returns-in_ok-refused-in-Err-clause-ok
returns-in_ok-refused-in-Err-clause-ok g c =
    IfOk-weaker c.reply_line.result _ _
    (λ line is. refused_line c.args.pass.now.view c.publish.new.pass.view c.args.change c.in-Err.error c.in_ok-refused-in-Err.field-0 (encode_utf8_all line)
    c.in_ok-refused-in-Err.ensures.reply c.in_ok-refused-in-Err.ensures.cause c.in-Err.ensures.grows c.publish.ensures.keeps is c.in-Err.ensures.refused)
    c.reply_line.ensures
