use Rattle.mf_core.proofs.Moments.{scripts_are_transcripts}
use Rattle.mf_core.proofs.scripts.scripts_are_transcripts.Goals as goal

pub returns : goal.returns
returns g c = λ local. scripts_are_transcripts g.M.Meaning.answer local c.editions_stay.ensures
