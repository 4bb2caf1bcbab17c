use Rattle.std.proofs.Common.{encode_utf8_all}
use Rattle.std.proofs.lemmas.Result.{IfOk-weaker}
use Rattle.mf_session.proofs.Turning.{refused_line}
use Rattle.mf_session.proofs.publish.publish.Goals as goal

pub returns-in_ok-refused-in-Err-clause-ok : goal.returns-in_ok-refused-in-Err-clause-ok
returns-in_ok-refused-in-Err-clause-ok c =
    IfOk-weaker c.reply_line.result _ _
    (λ line is. refused_line c.args.desk.now c.publish.new.self c.args.change c.in-Err.error c.in_ok-refused-in-Err.field-0 (encode_utf8_all line)
    c.in_ok-refused-in-Err.ensures.reply c.in_ok-refused-in-Err.ensures.cause c.in-Err.ensures.err is c.in-Err.ensures.refused)
    c.reply_line.ensures
