use Rattle.mf_transcript.proofs.Numbered.{counts_number}
use Rattle.mf_transcript.proofs.laws.counts_number_entries.Goals as goal

pub returns : goal.returns
returns c = counts_number
