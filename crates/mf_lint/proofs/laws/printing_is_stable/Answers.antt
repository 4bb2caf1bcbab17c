use Rattle.mf_lint.proofs.Canonical.{stable}
use Rattle.mf_lint.proofs.laws.printing_is_stable.Goals as goal

pub returns : goal.returns
returns c = stable
