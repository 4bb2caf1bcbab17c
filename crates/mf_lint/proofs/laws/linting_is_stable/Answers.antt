use Rattle.mf_lint.proofs.Lints.{stable}
use Rattle.mf_lint.proofs.laws.linting_is_stable.Goals as goal

pub returns : goal.returns
returns c = stable
