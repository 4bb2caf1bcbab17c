use Rattle.std.proofs.Common.{◌∙◌, ap, encode_utf8_all, subst, Ok}
use Rattle.mf_transcript.specs.Replies.{IsLintReply}
use Rattle.std.proofs.lemmas.Result.{IfOk-weaker}
use Rattle.mf_wire.specs.Replies.{reply_line}
use Rattle.mf_wire.specs.Requests.{line_request}
use Rattle.mf_session.proofs.Sharings.{counts, lints, publishes, refuses_line, shows}
use Rattle.mf_session.proofs.calls.answer_shared.Goals as goal

pub returns-in-Ok-Publish-clause-ok : goal.returns-in-Ok-Publish-clause-ok
returns-in-Ok-Publish-clause-ok g c =
    IfOk-weaker c.share_checked.result _ _
    (λ said done. publishes c.args.line.now (encode_utf8_all said) c.args.pass.now.view c.share_checked.new.pass.view c.in-Ok-Publish.change
    (c.in-Ok-Publish.ensures.request ∙ ap Ok c.in-Ok-Publish.field-0-is) done)
    c.share_checked.ensures.ok

pub returns-in_ok-format_shared-in-Ok-Format-clause-ok : goal.returns-in_ok-format_shared-in-Ok-Format-clause-ok
returns-in_ok-format_shared-in-Ok-Format-clause-ok g c =
    IfOk-weaker c.reply_line.result _ _
    (λ said is. shows c.args.line.now c.args.pass.now.view c.format_shared.new.pass.view _ _ _ c.in-Ok-Format.since
    (c.in-Ok-Format.ensures.request ∙ ap Ok c.in-Ok-Format.field-0-is) c.in_ok-format_shared-in-Ok-Format.field-0 (encode_utf8_all said) is
    c.in_ok-format_shared-in-Ok-Format.ensures.ok)
    c.reply_line.ensures

pub returns-in_ok-lint_reply-in-Ok-Lint-clause-ok : goal.returns-in_ok-lint_reply-in-Ok-Lint-clause-ok
returns-in_ok-lint_reply-in-Ok-Lint-clause-ok g c =
    IfOk-weaker c.reply_line-in-Ok-Lint.result _ _
    (λ said is. lints c.args.line.now (encode_utf8_all said) _ c.args.pass.now.view c.in_ok-lint_reply-in-Ok-Lint.field-0
    (c.in-Ok-Lint.ensures.request ∙ ap Ok c.in-Ok-Lint.field-0-is)
    (subst (λ source. IsLintReply source c.in_ok-lint_reply-in-Ok-Lint.field-0) c.as_str.ensures.characters c.in_ok-lint_reply-in-Ok-Lint.ensures) is)
    c.reply_line-in-Ok-Lint.ensures

pub returns-in-Ok-Stat-clause-ok : goal.returns-in-Ok-Stat-clause-ok
returns-in-Ok-Stat-clause-ok g c =
    IfOk-weaker c.reply_line-in-Ok-Stat.result _ _
    (λ said is. counts c.args.line.now (encode_utf8_all said) c.args.pass.now.view c.stat.new.pass.view c.stat.result
    (c.in-Ok-Stat.ensures.request ∙ ap Ok c.in-Ok-Stat.field-0-is) (is ∙ ap reply_line c.stat_reply.ensures) c.stat.ensures.tells c.stat.ensures.grows
    c.stat.ensures.keeps)
    c.reply_line-in-Ok-Stat.ensures

pub returns-in_ok-refusal-in-Err-clause-ok : goal.returns-in_ok-refusal-in-Err-clause-ok
returns-in_ok-refusal-in-Err-clause-ok g c =
    IfOk-weaker c.reply_line-in-Err.result _ _
    (λ said is. refuses_line c.args.line.now (encode_utf8_all said) c.args.pass.now.view c.in_ok-refusal-in-Err.field-0
    (c.in_ok-refusal-in-Err.ensures.due (line_request c.args.line.now) c.in-Err.ensures.refused) c.in_ok-refusal-in-Err.ensures.plain is)
    c.reply_line-in-Err.ensures
