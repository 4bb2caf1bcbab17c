use Rattle.mf_transcript.proofs.Legal.{lines_are_legal}
use Rattle.mf_transcript.proofs.laws.transcripts_are_legal.Goals as goal

pub returns : goal.returns
returns c = lines_are_legal
