use Rattle.mf_transcript.proofs.Served.{answers_served}
use Rattle.mf_transcript.proofs.laws.answers_are_served.Goals as goal

pub returns : goal.returns
returns c = answers_served
