use Rattle.std.proofs.Common.{◌∙◌}
use Rattle.mf_edition.proofs.RecordMap.{records_shared}
use Rattle.mf_edition.proofs.record.RecordsClone.clone.Goals as goal

pub returns : goal.returns
returns c = record { cases = records_shared _ _ c.in_ok-by_tag.ensures.cases ∙ c.self.view_is }
