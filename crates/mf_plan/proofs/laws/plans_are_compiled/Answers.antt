use Rattle.mf_plan.proofs.Computed.{plan_compiled}
use Rattle.mf_plan.proofs.Once.{planned}
use Rattle.mf_plan.proofs.laws.plans_are_compiled.Goals as goal

pub returns : goal.returns
returns c = λ source plan. (plan_compiled source plan, planned source plan)
