use Rattle.mf_edition.proofs.EditionLaws.{newest}
use Rattle.mf_edition.proofs.laws.newest_is_last.Goals as goal

pub returns : goal.returns
returns c = newest
