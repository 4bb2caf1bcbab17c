use Rattle.std.proofs.Common.{◌∙◌, ap, encode_utf8_all, refl, Ok}
use Rattle.std.proofs.lemmas.Result.{IfOk-weaker}
use Rattle.mf_wire.specs.Requests.{line_request}
use Rattle.mf_session.proofs.Turning.{publishes, refuses}
use Rattle.mf_session.proofs.desk.answer.Goals as goal

pub returns-in-Ok-Publish-clause-ok : goal.returns-in-Ok-Publish-clause-ok
returns-in-Ok-Publish-clause-ok c =
    IfOk-weaker c.publish_checked.result _ _
    (λ said done. publishes c.args.line.now (encode_utf8_all said) c.args.desk.now c.publish_checked.new.desk c.in-Ok-Publish.change
    (c.in-Ok-Publish.ensures.request ∙ ap Ok c.in-Ok-Publish.field-0-is) done)
    c.publish_checked.ensures.ok

pub returns-in_ok-refusal-in-Err-clause-ok : goal.returns-in_ok-refusal-in-Err-clause-ok
returns-in_ok-refusal-in-Err-clause-ok c =
    IfOk-weaker c.reply_line-in-Err.result _ _
    (λ said is. refuses c.args.line.now (encode_utf8_all said) c.args.desk.now _ c.in_ok-refusal-in-Err.field-0
    (c.in_ok-refusal-in-Err.ensures.due (line_request c.args.line.now) c.in-Err.ensures.refused) is refl)
    c.reply_line-in-Err.ensures
