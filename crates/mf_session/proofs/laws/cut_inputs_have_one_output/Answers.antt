use Rattle.mf_session.proofs.Outputs.{cut_inputs}
use Rattle.mf_session.proofs.laws.cut_inputs_have_one_output.Goals as goal

pub returns : goal.returns
returns c = cut_inputs
