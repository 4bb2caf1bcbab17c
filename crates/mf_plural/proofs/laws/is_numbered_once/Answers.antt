use Rattle.mf_plural.proofs.Deciding.{numbered_once}
use Rattle.mf_plural.proofs.laws.is_numbered_once.Goals as goal

pub returns : goal.returns
returns c = numbered_once
