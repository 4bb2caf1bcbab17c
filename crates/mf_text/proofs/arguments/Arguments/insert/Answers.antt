use Rattle.std.proofs.Common.{chars, subst, sym}
use Rattle.unicode_normalization.proofs.FormsLemmas.{nfc_idem}
use Rattle.unicode_normalization.specs.Forms.{IsInForm, Nfc}
use Rattle.mf_text.specs.Arguments.{AreNormal}
use Rattle.mf_text.proofs.Normal.{normal_with}
use Rattle.mf_text.proofs.arguments.Arguments.insert.Goals as goal

pub invariant_of-self-2 : goal.invariant_of-self-2
invariant_of-self-2 c =
    subst (λ entries. AreNormal entries) (sym c.in_ok-insert.ensures.entries)
    (normal_with c.self.inside.named.entries c.in_ok-name.name c.args.value c.self.invariant
    (subst (IsInForm Nfc) (sym c.in_ok-name.ensures) (nfc_idem (chars c.args.name.now))))
