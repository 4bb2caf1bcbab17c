use Rattle.mf_edition.proofs.Sized.{longer}
use Rattle.mf_edition.proofs.laws.longer_logs_use_more.Goals as goal

pub returns : goal.returns
returns c = longer
