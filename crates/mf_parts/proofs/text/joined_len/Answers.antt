use Rattle.mf_parts.proofs.Joining.{length_more}
use Rattle.mf_parts.proofs.text.joined_len.Goals as goal

pub loop-part-preserved : goal.loop-part-preserved
loop-part-preserved c =
    length_more c.as_slice-part-items.result.now c.loop-part.part-index c.part-item.result c.loop-part.len c.saturating_add-len.result c.part_len.result
    c.loop-part-test.true c.part-item.is c.loop-part.invariant c.saturating_add-len.ensures c.part_len.ensures
