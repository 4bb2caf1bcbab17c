use Rattle.mf_legal.proofs.Growth.{transcripts_stay}
use Rattle.mf_legal.proofs.laws.transcripts_stay.Goals as goal

pub returns : goal.returns
returns g c = transcripts_stay g.M.Meaning.line g.M.Meaning.reply g.M.Meaning.service
