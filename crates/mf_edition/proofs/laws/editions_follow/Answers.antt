use Rattle.mf_edition.proofs.EditionLaws.{follow}
use Rattle.mf_edition.proofs.laws.editions_follow.Goals as goal

pub returns : goal.returns
returns c = follow
