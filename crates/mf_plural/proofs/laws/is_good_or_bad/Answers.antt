use Rattle.mf_plural.proofs.Deciding.{good_or_bad, not_both}
use Rattle.mf_plural.proofs.laws.is_good_or_bad.Goals as goal

pub returns-clause-either : goal.returns-clause-either
returns-clause-either c = good_or_bad

pub returns-clause-not_both : goal.returns-clause-not_both
returns-clause-not_both c = not_both
