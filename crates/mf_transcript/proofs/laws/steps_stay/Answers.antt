use Rattle.mf_transcript.proofs.Following.{steps_stay}
use Rattle.mf_transcript.proofs.laws.steps_stay.Goals as goal

pub returns : goal.returns
returns c = steps_stay
