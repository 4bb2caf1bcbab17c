use Rattle.mf_lint.proofs.Lints.{lints_once}
use Rattle.mf_lint.proofs.laws.each_source_is_linted_to_one.Goals as goal

pub returns : goal.returns
returns c = lints_once
