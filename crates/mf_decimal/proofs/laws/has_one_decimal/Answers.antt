use Rattle.mf_decimal.proofs.Unique.{has_one_decimal}
use Rattle.mf_decimal.proofs.laws.has_one_decimal.Goals as goal

pub returns : goal.returns
returns c = has_one_decimal
