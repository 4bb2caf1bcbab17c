use Rattle.mf_transcript.proofs.Once.{soles_once}
use Rattle.mf_transcript.proofs.laws.soles_have_one_outcome.Goals as goal

pub returns : goal.returns
returns c = soles_once
