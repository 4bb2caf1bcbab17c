use Rattle.mf_lint.proofs.Canonical.{tells}
use Rattle.mf_lint.proofs.laws.canonical_sources_tell_messages.Goals as goal

pub returns : goal.returns
returns c = tells
