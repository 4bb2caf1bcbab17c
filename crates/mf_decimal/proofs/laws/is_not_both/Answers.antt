use Rattle.mf_decimal.proofs.Unique.{is_not_both}
use Rattle.mf_decimal.proofs.laws.is_not_both.Goals as goal

pub returns : goal.returns
returns c = is_not_both
