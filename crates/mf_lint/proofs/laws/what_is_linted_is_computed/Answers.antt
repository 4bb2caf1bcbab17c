use Rattle.mf_lint.proofs.Lints.{computed, computed_lints}
use Rattle.mf_lint.proofs.laws.what_is_linted_is_computed.Goals as goal

pub returns : goal.returns
returns c = λ source linted. (computed_lints source linted, computed source linted)
