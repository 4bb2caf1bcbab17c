use Rattle.mf_decimal.proofs.ReadBack.{is_read_back}
use Rattle.mf_decimal.proofs.laws.is_read_back.Goals as goal

pub returns : goal.returns
returns c = is_read_back
