use Rattle.mf_meaning.proofs.Numbers.{round_is}
use Rattle.mf_meaning.proofs.laws.is_rounding.Goals as goal

pub returns : goal.returns
returns c = round_is
