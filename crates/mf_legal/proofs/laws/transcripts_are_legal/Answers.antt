use Rattle.mf_legal.proofs.Histories.{transcripts_are_legal}
use Rattle.mf_legal.proofs.laws.transcripts_are_legal.Goals as goal

pub returns : goal.returns
returns g c = transcripts_are_legal g.M.Meaning.line g.M.Meaning.reply g.M.Meaning.service
