use Rattle.mf_transcript.proofs.Fixed.{never_fall}
use Rattle.mf_transcript.proofs.laws.editions_never_fall.Goals as goal

pub returns : goal.returns
returns c = never_fall
