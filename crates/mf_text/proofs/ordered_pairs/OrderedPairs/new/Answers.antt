use Rattle.std.proofs.Common.{subst, sym}
use Rattle.mf_text.specs.Pairs.{AreInByteOrder}
use Rattle.mf_text.proofs.Pairs.{ascending_none}
use Rattle.mf_text.proofs.ordered_pairs.OrderedPairs.new.Goals as goal

pub invariant_of-result : goal.invariant_of-result
invariant_of-result c = subst (λ pairs. AreInByteOrder pairs) (sym c.new.ensures.items) ascending_none
