use Rattle.std.proofs.Common.{◌∙◌, inl, inr, refl, subst, sym}
use Rattle.std.proofs.lemmas.Result.{on_err_weaker, on_ok_weaker}
use Rattle.mf_wire.specs.Replies.{memory_line}
use Rattle.mf2d.specs.Lint.{LintAnswered}
use Rattle.mf2d.proofs.lint.send_answer.Goals as goal

pub returns-in-Ok-clause-whole : goal.returns-in-Ok-clause-whole
returns-in-Ok-clause-whole g c =
    on_ok_weaker c.send_line.result
    (λ sent. record {
      line = c.as_bytes.result.now;
      answered = subst (LintAnswered c.args.input.now) (sym (c.as_bytes.ensures.value ∙ c.as_str.ensures.bytes)) (inr c.in-Ok.ensures);
      sent = sent;
    })
    c.send_line.ensures.sent

pub returns-in-Ok-clause-part : goal.returns-in-Ok-clause-part
returns-in-Ok-clause-part g c =
    on_err_weaker c.send_line.result
    (λ sent. record {
      line = c.as_bytes.result.now;
      answered = subst (LintAnswered c.args.input.now) (sym (c.as_bytes.ensures.value ∙ c.as_str.ensures.bytes)) (inr c.in-Ok.ensures);
      sent = sent;
    })
    c.send_line.ensures.stopped

pub returns-in-Err-clause-whole : goal.returns-in-Err-clause-whole
returns-in-Err-clause-whole g c =
    on_ok_weaker c.send_line-in-Err.result (λ sent. record { line = memory_line; answered = inl refl; sent = sent }) c.send_line-in-Err.ensures.sent

pub returns-in-Err-clause-part : goal.returns-in-Err-clause-part
returns-in-Err-clause-part g c =
    on_err_weaker c.send_line-in-Err.result (λ sent. record { line = memory_line; answered = inl refl; sent = sent }) c.send_line-in-Err.ensures.stopped
