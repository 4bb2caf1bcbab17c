use Rattle.mf_lines.proofs.Once.{cuts_once}
use Rattle.mf_lines.proofs.laws.cuts_are_unique.Goals as goal

pub returns : goal.returns
returns c = cuts_once
