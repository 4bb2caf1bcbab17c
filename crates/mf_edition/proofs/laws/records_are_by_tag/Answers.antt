use Rattle.mf_edition.proofs.RecordMap.{by_tag}
use Rattle.mf_edition.proofs.laws.records_are_by_tag.Goals as goal

pub returns : goal.returns
returns c = by_tag
