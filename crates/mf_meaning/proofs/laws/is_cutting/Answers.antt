use Rattle.mf_meaning.proofs.Numbers.{cut_is}
use Rattle.mf_meaning.proofs.laws.is_cutting.Goals as goal

pub returns : goal.returns
returns c = cut_is
