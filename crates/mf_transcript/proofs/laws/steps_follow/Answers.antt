use Rattle.mf_transcript.proofs.Following.{steps_follow}
use Rattle.mf_transcript.proofs.laws.steps_follow.Goals as goal

pub returns : goal.returns
returns c = steps_follow
