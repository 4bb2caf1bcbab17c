use Rattle.mf_lint.proofs.Canonical.{spelled_back}
use Rattle.mf_lint.proofs.laws.what_is_printed_is_read_back.Goals as goal

pub returns : goal.returns
returns c = spelled_back
