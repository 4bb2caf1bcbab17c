use Rattle.mf_transcript.proofs.Back.{transcripts_of_calls}
use Rattle.mf_transcript.proofs.laws.transcripts_are_of_calls.Goals as goal

pub returns : goal.returns
returns c = transcripts_of_calls
