use Rattle.std.proofs.Common.{Some, ap}
use Rattle.mf_history.proofs.numbers.edition_named.Goals as goal

pub returns-in_err-edition : goal.returns-in_err-edition
returns-in_err-edition c = λ k small names. absurd (c.in_err-edition.ensures k names.rest small names.front)

pub returns : goal.returns
returns c = λ k small names. ap Some (c.in_ok-edition.ensures k names.rest small names.front).0
