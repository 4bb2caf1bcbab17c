use Rattle.mf_print.proofs.Messages.{message}
use Rattle.mf_print.proofs.laws.canonical_sources_spell.Goals as goal

pub returns : goal.returns
returns c = message
