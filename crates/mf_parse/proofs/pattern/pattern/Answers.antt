use Rattle.std.proofs.Common.{sym, ◌∙◌}
use Rattle.mf_parse.specs.Computed.{pattern_at}
use Rattle.mf_parse.proofs.Texts.{piece_stop}
use Rattle.mf_parse.proofs.pattern.pattern.Goals as goal

pub returns-clause-found : goal.returns-clause-found
returns-clause-found c = piece_stop (pattern_at c.args.cursor.now.left) c.loop-alloc.pieces c.loop-alloc.cursor.left c.loop-alloc.invariant (sym c.goes_on.ensures ∙ c.loop-alloc-test.false)
