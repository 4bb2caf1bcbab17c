use Rattle.mf_rehearse.proofs.Together.{one_history}
use Rattle.mf_rehearse.proofs.laws.callers_make_one_history.Goals as goal

pub returns : goal.returns
returns c = one_history
