use Rattle.mf_transcript.proofs.Cases.{one_case}
use Rattle.mf_transcript.proofs.laws.one_case_holds.Goals as goal

pub returns : goal.returns
returns c = one_case
