use Rattle.std.proofs.Common.{ap, sym, inl, inr}
use Rattle.std.specs.Str.{chars}
use Rattle.mf_tree.specs.Canonical.{closing_source}
use Rattle.mf_print.proofs.pattern.closing.Goals as goal

pub returns-in-Start : goal.returns-in-Start
unfolding chars
returns-in-Start c = elim c.in-Start.is [ inl is ↦ ap closing_source (sym is) | inr is ↦ ap closing_source (sym is) ]

pub returns-in-Standalone : goal.returns-in-Standalone
unfolding chars
returns-in-Standalone c = ap closing_source (sym c.in-Standalone.is)
