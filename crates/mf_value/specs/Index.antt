-- What is kept beside the entries of a table: for private clauses.
use Rattle.std.specs.Prelude.{◌≡◌, ℕ, List, drop, take, slice_get, Option, Some, None, option_map}
use Rattle.std.specs.BTreeMap.{BTreeMap, get}
use Rattle.std.specs.List.{list_any}
use Rattle.std.specs.Option.{is_some, option_or}
use Rattle.mf_text.specs.Order.{byte_cmp}
use Rattle.mf_text.specs.declared.pair.Pair.{Pair}
use Rattle.mf_value.specs.Entries.{has_form, place_for, place_from, repeated_from, repeated_key}

-- the text of the entry at a place
abbrev pub text_at : List Pair → Option ℕ → Option (List ℕ)
text_at entries None = None
text_at entries (Some place) = option_map (λ entry. entry.value) (slice_get entries place)

-- the places are those of the first entry of each normal form, and the one named is that of the first key that is there twice
pub record IsIndexOf (entries : List Pair) (found_at : BTreeMap (List ℕ) ℕ) (again : Option ℕ) : Type 0 where
  pub places : (form : List ℕ) → get byte_cmp found_at form ≡ place_for form entries
  pub repeated : again ≡ repeated_key entries

-- so far as the entries before a place say: what they don't say, the others do
pub record IsIndexBefore (entries : List Pair) (at : ℕ) (found : List ℕ → Option ℕ) (again : Option ℕ) : Type 0 where
  pub places : (form : List ℕ) → option_or (found form) (place_from form at (drop at entries)) ≡ place_for form entries
  pub seen : (form : List ℕ) → is_some (found form) ≡ list_any (has_form form) (take at entries)
  pub repeated : option_or again (repeated_from (take at entries) at (drop at entries)) ≡ repeated_key entries
