use Rattle.mf_edition.proofs.EditionLaws.{numbered}
use Rattle.mf_edition.proofs.laws.editions_are_numbered.Goals as goal

pub returns : goal.returns
returns c = numbered
