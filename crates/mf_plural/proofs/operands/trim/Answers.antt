use Rattle.std.proofs.Common.{◌∙◌}
use Rattle.mf_plural.proofs.Trimming.{len_step, value_step}
use Rattle.mf_plural.proofs.operands.trim.Goals as goal

pub loop-len-preserved : goal.loop-len-preserved
loop-len-preserved c = record {
  len = len_step c.loop-len.len c.loop-len.fraction c.loop-len-test.true c.if-fraction-eq0.true ∙ c.loop-len.invariant.len;
  fraction = value_step c.loop-len.len c.loop-len.fraction c.loop-len-test.true c.if-fraction-eq0.true ∙ c.loop-len.invariant.fraction;
}
