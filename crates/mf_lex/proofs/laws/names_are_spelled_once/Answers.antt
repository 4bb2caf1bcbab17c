use Rattle.mf_lex.proofs.Names.{names_once}
use Rattle.mf_lex.proofs.laws.names_are_spelled_once.Goals as goal

pub returns : goal.returns
returns c = names_once
