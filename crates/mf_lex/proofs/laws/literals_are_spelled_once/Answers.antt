use Rattle.mf_lex.proofs.Literals.{literals_once}
use Rattle.mf_lex.proofs.laws.literals_are_spelled_once.Goals as goal

pub returns : goal.returns
returns c = literals_once
