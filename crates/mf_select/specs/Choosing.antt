-- When a variant can be chosen, and what choosing one promises (Unicode TS 35, Part 9, "Pattern Selection").
use Rattle.std.specs.Prelude.{◌≡◌, ◌≢◌, ◌<◌, ◌⊎◌, ℕ, List, [], map, Some}
use Rattle.unicode_normalization.specs.Forms.{nfc}
use Rattle.mf_tree.specs.Faults.{duplicate_variants, missing_fallback_variants, variant_key_mismatches}
use Rattle.mf_tree.specs.declared.message.Variant.{Variant}
use Rattle.mf_tree.specs.declared.name.Name.{Name}
use Rattle.mf_value.specs.ErrorLists.{Calls}
use Rattle.mf_value.specs.Meaning.{Meaning}
use Rattle.mf_value.specs.Selection.{Chosen, IsLess, Ranks, after_selection, matched, selector_value}
use Rattle.mf_value.specs.declared.called.Ranked.{Ranked}
use Rattle.mf_value.specs.declared.value.Value.{Value}
use Rattle.mf_resolve.specs.Gathering.{Advances, Gathers}
use Rattle.mf_resolve.specs.Resolving.{ScopeState, bound_of}

-- a message's check errors leave nothing of its selection: each variant has as many keys as there are selectors, one variant
-- has `*` alone, and no two variants have equal keys
pub record CanChoose (selectors : List Name) (variants : List Variant) : Type 0 where
  pub keyed : variant_key_mismatches selectors variants ≡ []
  pub fallback : missing_fallback_variants selectors variants ≡ []
  pub distinct : duplicate_variants variants ≡ []

-- two keys that match a value equally well are equal
abbrev pub TellsKeys : (Value → List ℕ → Ranked) → Type 0
TellsKeys rank =
    (value : Value) (key other : List ℕ) (found : ℕ) → matched (rank value key) ≡ Some found → matched (rank value other) ≡ Some found → nfc key ≡ nfc other

-- the values of a message's selectors
abbrev pub selector_values : Meaning → ScopeState → List Name → List Value
selector_values meaning scope selectors = map (selector_value meaning scope.arguments (bound_of meaning scope)) selectors

-- the variant at a place is the first of those whose keys all match and whose ranks are least
pub record IsFirst (meaning : Meaning) (values : List Value) (variants : List Variant) (place : ℕ) : Type 0 where
  pub ranks : List ℕ
  pub matches : Ranks meaning values variants place ranks
  pub least : (other : ℕ) (others : List ℕ) → other ≢ place → Ranks meaning values variants other others →
      IsLess ranks others ⊎ ((ranks ≡ others) × (place < other))

-- the errors of selectors and keys are gathered, and the place is that of the chosen variant; where a set of functions doesn't
-- tell keys apart, it is that of the first
pub record Chooses (meaning : Meaning) (old new : ScopeState) (selectors : List Name) (variants : List Variant) (place : ℕ) : Type 0 where
  pub advances : Advances meaning old new (after_selection meaning old.arguments (bound_of meaning old) selectors variants)
  pub first : (calls : Calls) → Gathers meaning old calls → IsFirst meaning (selector_values meaning old selectors) variants place
  pub chosen : TellsKeys meaning.rank → (calls : Calls) → Gathers meaning old calls →
      Chosen meaning (selector_values meaning old selectors) variants place
