use Rattle.std.proofs.Common.{◌+◌, arith, refl}
use Rattle.std.proofs.lemmas.List.{take_rest}
use Rattle.std.proofs.lemmas.Result.{err_from_is_err_and}
use Rattle.mf_lines.proofs.Answering.{step, stopped}
use Rattle.mf_lines.proofs.lines.answer_lines.Goals as goal

pub returns-in_err-answer_line-clause-part : goal.returns-in_err-answer_line-clause-part
returns-in_err-answer_line-clause-part g c =
    let p = err_from_is_err_and c.from_residual.result c.from_residual.ensures.1 in
    rw p.1 (stopped g.C.Clerk.answers _ _ _ _ _ _ _ _ c.loop-end.rest.now _ c.loop-end.invariant.going c.in-Some.end c.in-Some.ensures refl c.in_err-answer_line.ensures.part)

pub loop-end-preserved : goal.loop-end-preserved
loop-end-preserved g c = record {
  going = step g.C.Clerk.answers _ _ _ _ _ _ _ _ c.loop-end.rest.now _ c.loop-end.invariant.going c.in-Some.end c.in-Some.ensures refl _
      (take_rest c.loop-end.rest.now (c.in-Some.end + 1)) c.in_ok-answer_line.ensures.all;
  within = omega arith;
  one = refl;
  count = omega (arith, c.loop-end.invariant.count, c.in_ok-answer_line.ensures.cause.later);
}
