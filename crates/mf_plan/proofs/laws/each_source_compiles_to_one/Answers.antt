use Rattle.mf_plan.proofs.Once.{compiled_once}
use Rattle.mf_plan.proofs.laws.each_source_compiles_to_one.Goals as goal

pub returns : goal.returns
returns c = compiled_once
