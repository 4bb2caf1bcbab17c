use Rattle.mf_parse.proofs.Choices.{named_some}
use Rattle.mf_parse.proofs.expression.namespace_of.Goals as goal

pub returns-in_ok-name-in-Some : goal.returns-in_ok-name-in-Some
returns-in_ok-name-in-Some c = named_some c.args.namespace c.in-Some.spelled c.in_ok-name-in-Some.name c.in-Some.is c.in_ok-name-in-Some.ensures
