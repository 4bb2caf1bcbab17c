use Rattle.mf_core.proofs.Counts.{once_plus_quits}
use Rattle.mf_core.proofs.Answered.{entries_are_accepted, pins_are_newest, ready_was_done}
use Rattle.mf_core.proofs.Steps.{valid_inductive}
use Rattle.mf_core.proofs.laws.every_run.Goals as goal

pub returns-clause-inductive : goal.returns-clause-inductive
returns-clause-inductive c = valid_inductive c.editions_stay.ensures

pub returns-clause-once : goal.returns-clause-once
returns-clause-once c = once_plus_quits c.editions_stay.ensures

pub returns-clause-pins : goal.returns-clause-pins
returns-clause-pins c = pins_are_newest

pub returns-clause-entries : goal.returns-clause-entries
returns-clause-entries c = entries_are_accepted

pub returns-clause-ready : goal.returns-clause-ready
returns-clause-ready c = ready_was_done
