use Rattle.mf_plural.proofs.Computing.{computed_first_bad, computed_spelled, first_bad_computed, spelled_computed}
use Rattle.mf_plural.proofs.laws.rules_are_computed.Goals as goal

pub returns-clause-rules : goal.returns-clause-rules
returns-clause-rules c text rules = (computed_spelled text rules, spelled_computed text rules)

pub returns-clause-number : goal.returns-clause-number
returns-clause-number c text number = (computed_first_bad text number, first_bad_computed text number)
