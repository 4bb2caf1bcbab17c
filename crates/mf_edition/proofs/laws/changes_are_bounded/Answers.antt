use Rattle.mf_edition.proofs.EditionLaws.{bounded}
use Rattle.mf_edition.proofs.laws.changes_are_bounded.Goals as goal

pub returns : goal.returns
returns c = bounded
