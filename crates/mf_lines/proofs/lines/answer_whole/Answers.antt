use Rattle.std.proofs.Common.{drop}
use Rattle.std.proofs.lemmas.Result.{err_from_is_err_and}
use Rattle.mf_lines.proofs.Answering.{unflushed}
use Rattle.mf_lines.proofs.lines.answer_whole.Goals as goal

pub returns-in_err-flush-clause-part : goal.returns-in_err-flush-clause-part
returns-in_err-flush-clause-part g c =
    let p = err_from_is_err_and c.from_residual-in_err-flush.result c.from_residual-in_err-flush.ensures.1 in
    let front = c.in_ok-count.ensures.all in
    rw p.1 (
    record {
      lines = front.lines;
      rest = drop c.in_ok-count.count c.args.bytes.now;
      cut = front.cut;
      answers = unflushed _ _ _ _ _ _ _ front.answers c.in_err-flush.ensures.bytes;
    })
