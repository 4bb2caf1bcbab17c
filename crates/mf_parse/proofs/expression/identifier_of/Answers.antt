use Rattle.mf_parse.proofs.Choices.{identifier_is}
use Rattle.mf_parse.proofs.expression.identifier_of.Goals as goal

pub returns : goal.returns
returns c = identifier_is c.args.ident c.in_ok-namespace.namespace c.in_ok-name.name c.in_ok-namespace.ensures c.in_ok-name.ensures
