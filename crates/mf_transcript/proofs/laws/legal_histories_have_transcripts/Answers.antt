use Rattle.mf_transcript.proofs.Legal.{legal_lines}
use Rattle.mf_transcript.proofs.laws.legal_histories_have_transcripts.Goals as goal

pub returns : goal.returns
returns c = legal_lines
