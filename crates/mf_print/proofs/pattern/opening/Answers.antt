use Rattle.std.proofs.Common.{ap, sym, inl, inr}
use Rattle.std.specs.Str.{chars}
use Rattle.mf_tree.specs.Canonical.{opening_source}
use Rattle.mf_print.proofs.pattern.opening.Goals as goal

pub returns-in-Start : goal.returns-in-Start
unfolding chars
returns-in-Start c = elim c.in-Start.is [ inl is ↦ ap opening_source (sym is) | inr is ↦ ap opening_source (sym is) ]

pub returns-in-End : goal.returns-in-End
unfolding chars
returns-in-End c = ap opening_source (sym c.in-End.is)
