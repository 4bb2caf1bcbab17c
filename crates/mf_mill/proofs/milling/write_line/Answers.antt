use Rattle.std.proofs.Common.{Result, Ok, Err}
use Rattle.std.specs.Result.{OnErr}
use Rattle.std.proofs.lemmas.Result.{on_err_weaker}
use Rattle.mf_io.proofs.Told.{TakesFront-kept, TakesFront-whole}
use Rattle.mf_lines.specs.Served.{ended}
use Rattle.mf_mill.proofs.milling.write_line.Goals as goal

fails : {T E : Type 0} (result : Result T E) → OnErr result (Unit {0})
fails (Ok value) = tt
fails (Err error) = tt

pub returns-clause-part : goal.returns-clause-part
returns-clause-part g c =
    let line = c.args.line.now in
    on_err_weaker {P = Unit {0}} c.flush.result
    (λ _. record {
      line = line;
      summary = c.requires;
      sent = TakesFront-kept _ _ _ (ended line) (TakesFront-whole _ _ (ended line) c.in_ok-send_line.ensures.sent) c.flush.ensures.bytes;
    })
    (fails c.flush.result)
