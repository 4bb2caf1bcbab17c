use Rattle.mf_transcript.proofs.Legal.{lines_stay}
use Rattle.mf_transcript.proofs.laws.transcripts_stay.Goals as goal

pub returns : goal.returns
returns c = lines_stay
