use Rattle.mf_plural.proofs.Deciding.{once}
use Rattle.mf_plural.proofs.laws.is_spelled_once.Goals as goal

pub returns : goal.returns
returns c = once
