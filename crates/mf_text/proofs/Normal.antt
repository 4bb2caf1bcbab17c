-- Arguments whose names are in Normalization Form C, and one more.
use Rattle.std.proofs.Common.{ℕ, List, [], ◌∷◌}
use Rattle.std.specs.Ordering.{match_ordering}
use Rattle.std.specs.declared.cmp.Ordering.TheVariants.{Less, Equal, Greater}
use Rattle.unicode_normalization.specs.Forms.{IsInForm, Nfc}
use Rattle.mf_text.specs.Arguments.{with_argument, AreNormal}
use Rattle.mf_text.specs.Order.{byte_cmp}

pub normal_with : {V : Type 0} (arguments : List (List ℕ × V)) (name : List ℕ) (value : V) → AreNormal arguments → IsInForm Nfc name → AreNormal (with_argument arguments name value)
normal_with [] name value are is = (is, tt)
normal_with (argument ∷ arguments) name value are is =
    elim (byte_cmp name argument.0) as (λ o. AreNormal (match_ordering o ((name, value) ∷ argument ∷ arguments) ((argument.0, value) ∷ arguments) (argument ∷ with_argument arguments name value)))
    [ Less ↦ (is, are) | Equal ↦ (are.0, are.1) | Greater ↦ (are.0, normal_with arguments name value are.1 is) ]
