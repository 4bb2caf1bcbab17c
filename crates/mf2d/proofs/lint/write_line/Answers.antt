use Rattle.std.proofs.Common.{Result, Ok, Err}
use Rattle.std.specs.Result.{OnErr, OnOk}
use Rattle.std.proofs.lemmas.Result.{on_err_weaker, on_ok_weaker}
use Rattle.mf_io.proofs.Told.{Appends-kept, TakesFront-kept, TakesFront-whole}
use Rattle.mf_lines.specs.Served.{ended}
use Rattle.mf2d.proofs.lint.write_line.Goals as goal

fails : {T E : Type 0} (result : Result T E) → OnErr result (Unit {0})
fails (Ok value) = tt
fails (Err error) = tt

succeeds : {T E : Type 0} (result : Result T E) → OnOk result (Unit {0})
succeeds (Ok value) = tt
succeeds (Err error) = tt

pub returns-clause-whole : goal.returns-clause-whole
returns-clause-whole g c =
    let whole = c.in_ok-send_answer.ensures.whole in
    on_ok_weaker {P = Unit {0}} c.flush.result
    (λ _. record {
      line = whole.line;
      answered = whole.answered;
      sent = Appends-kept _ _ _ (ended whole.line) whole.sent c.flush.ensures.bytes;
    })
    (succeeds c.flush.result)

pub returns-clause-part : goal.returns-clause-part
returns-clause-part g c =
    let whole = c.in_ok-send_answer.ensures.whole in
    on_err_weaker {P = Unit {0}} c.flush.result
    (λ _. record {
      line = whole.line;
      answered = whole.answered;
      sent = TakesFront-kept _ _ _ (ended whole.line) (TakesFront-whole _ _ (ended whole.line) whole.sent) c.flush.ensures.bytes;
    })
    (fails c.flush.result)
