use Rattle.mf_answer.proofs.Once.{answer_once}
use Rattle.mf_answer.proofs.laws.requests_have_one_answer.Goals as goal

pub returns : goal.returns
returns c = answer_once
