use Rattle.mf_legal.proofs.Transcripts.{legal_histories_have_transcripts}
use Rattle.mf_legal.proofs.laws.legal_histories_have_transcripts.Goals as goal

pub returns : goal.returns
returns g c = legal_histories_have_transcripts g.M.Meaning.line g.M.Meaning.reply g.M.Meaning.service
