-- Replies that accept a publication.
use Rattle.std.proofs.Common.{◌≡◌, ◌∙◌, ℕ, zero, suc, ◌-◌, ◌<◌, List, [], ◌∷◌, Option, Some, length, slice_get, ap, sym, subst, arith}
use Rattle.std.proofs.lemmas.Option.{same_Some}
use Rattle.mf_edition.specs.Sizes.{used_by, IsWithin}
use Rattle.mf_edition.specs.declared.change.Change.{Change}
use Rattle.mf_edition.specs.declared.change.Entry.{Entry}
use Rattle.mf_legal.specs.Calls.{entry_at}
use Rattle.mf_transcript.specs.Steps.{next_entry}
use Rattle.mf_wire.specs.Replies.{op_of}
use Rattle.mf_history.specs.Numbers.{FindsEdition, Names}
use Rattle.mf_history.specs.Places.{IsAcceptedAt}
use Rattle.mf_history.specs.declared.place.Place.{Place}
use Rattle.mf_history.proofs.Lines.{accepted_names}

-- entry k stands at the index before k
pub entry_before : (log : List Entry) (k : ℕ) → 0 < k → entry_at log k ≡ slice_get log (k - 1)
entry_before log zero some = absurd (omega (arith, some))
entry_before log (suc k) some = let before : k ≡ suc k - 1 = omega arith in ap (slice_get log) before

module _ (log : List Entry) (caller : ℕ) (place : Place) (change : Change) (said : List ℕ) (within : IsWithin log (used_by log)) where
  -- the reply names that edition
  pub accepted_named : (k : ℕ) → IsAcceptedAt log caller place change said k → (found : Option ℕ) → FindsEdition said found → found ≡ Some k
  accepted_named k is found finds =
      finds k (omega (arith, is.within, within.few)) (subst (Names k) (sym is.replied) (accepted_names k (op_of change)))

  pub accepted_read : (k read : ℕ) → IsAcceptedAt log caller place change said k → (found : Option ℕ) → FindsEdition said found → found ≡ Some read → read ≡ k
  accepted_read k read is found finds here = same_Some read k (sym here ∙ accepted_named k is found finds)

  -- and its entry stands before it
  pub accepted_entry : (k : ℕ) → IsAcceptedAt log caller place change said k → slice_get log (k - 1) ≡ Some (next_entry caller place.made change)
  accepted_entry k is = sym (entry_before log k (omega (arith, is.above))) ∙ is.entry

-- what stands at an index is within the list
pub some_inside : (log : List Entry) (i : ℕ) (entry : Entry) → slice_get log i ≡ Some entry → i < length log
some_inside [] i entry at = absurd (grind arith)
some_inside (first ∷ log) zero entry at = omega arith
some_inside (first ∷ log) (suc i) entry at = omega (arith, some_inside log i entry at)
