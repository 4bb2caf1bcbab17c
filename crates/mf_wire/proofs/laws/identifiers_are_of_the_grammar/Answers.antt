use Rattle.mf_wire.proofs.Identifiers.{of_the_grammar}
use Rattle.mf_wire.proofs.laws.identifiers_are_of_the_grammar.Goals as goal

pub returns : goal.returns
returns c = of_the_grammar
