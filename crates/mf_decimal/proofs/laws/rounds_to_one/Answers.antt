use Rattle.mf_decimal.proofs.Unique.{rounds_to_one}
use Rattle.mf_decimal.proofs.laws.rounds_to_one.Goals as goal

pub returns : goal.returns
returns c = rounds_to_one
