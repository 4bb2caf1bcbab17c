use Rattle.mf_transcript.proofs.Following.{moves_follow}
use Rattle.mf_transcript.proofs.laws.moves_follow.Goals as goal

pub returns : goal.returns
returns c = moves_follow
