use Rattle.mf_transcript.proofs.Sole.{soles_are}
use Rattle.mf_transcript.proofs.laws.soles_are_transcripts.Goals as goal

pub returns : goal.returns
returns c = soles_are
