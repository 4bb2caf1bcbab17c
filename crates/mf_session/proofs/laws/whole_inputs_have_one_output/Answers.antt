use Rattle.mf_session.proofs.Outputs.{whole_inputs}
use Rattle.mf_session.proofs.laws.whole_inputs_have_one_output.Goals as goal

pub returns : goal.returns
returns c = whole_inputs
