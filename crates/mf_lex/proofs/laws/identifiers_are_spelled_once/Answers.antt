use Rattle.mf_lex.proofs.Identifiers.{identifiers_once}
use Rattle.mf_lex.proofs.laws.identifiers_are_spelled_once.Goals as goal

pub returns : goal.returns
returns c = identifiers_once
