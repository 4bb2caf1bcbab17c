use Rattle.mf_transcript.proofs.Fixed.{replies_fix}
use Rattle.mf_transcript.proofs.laws.replies_fix_their_editions.Goals as goal

pub returns : goal.returns
returns c = replies_fix
