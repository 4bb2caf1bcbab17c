use Rattle.mf_edition.proofs.EditionLaws.{stay}
use Rattle.mf_edition.proofs.laws.editions_stay.Goals as goal

pub returns : goal.returns
returns c = stay
