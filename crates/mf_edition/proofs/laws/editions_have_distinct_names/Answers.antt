use Rattle.mf_edition.proofs.EditionLaws.{distinct_names}
use Rattle.mf_edition.proofs.laws.editions_have_distinct_names.Goals as goal

pub returns : goal.returns
returns c = distinct_names
