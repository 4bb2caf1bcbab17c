use Rattle.mf_lex.proofs.Passing.{end_fits, end_boundary, front_is}
use Rattle.mf_lex.proofs.run.front.Goals as goal

pub overflow_sub-length : goal.overflow_sub-length
overflow_sub-length c = end_fits c.args.text.now c.args.end.now c.utf8.text c.utf8.end c.requires

pub range-requires-clause-end_boundary : goal.range-requires-clause-end_boundary
range-requires-clause-end_boundary c = end_boundary c.args.text.now c.args.end.now c.utf8.text c.utf8.end c.requires

pub returns : goal.returns
returns c = front_is c.args.text.now c.args.end.now c.range.result.now c.utf8.text c.utf8.end c.requires c.range.ensures.value
