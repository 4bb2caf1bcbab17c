use Rattle.mf_rehearse.proofs.Feeds.{reply_clean}
use Rattle.mf_rehearse.proofs.laws.replies_are_lines.Goals as goal

pub returns : goal.returns
returns c = reply_clean
