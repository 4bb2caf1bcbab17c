use Rattle.std.proofs.Common.{◌≡◌, refl, ◌∙◌, subst, sym}
use Rattle.std.specs.Str.{chars}
use Rattle.mf_locale.specs.Chain.{und}
use Rattle.mf_locale.specs.Tag.{IsLowerTag}
use Rattle.mf_locale.proofs.tag.Tag.und.Goals as goal

und_is : chars und ≡ und
unfolding chars
und_is = refl

kept : IsLowerTag und
kept = record { tag = refl; lower = refl }

pub invariant_of-result : goal.invariant_of-result
invariant_of-result c = subst IsLowerTag (sym (c.in_ok-text.ensures ∙ und_is)) kept

pub returns : goal.returns
returns c = c.in_ok-text.ensures ∙ und_is
