use Rattle.mf_transcript.proofs.Written.{replies_differ}
use Rattle.mf_transcript.proofs.laws.replies_differ.Goals as goal

pub returns : goal.returns
returns c = replies_differ
