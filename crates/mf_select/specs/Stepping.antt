-- What each step of choosing does: for private clauses.
use Rattle.std.specs.Prelude.{◌≡◌, ◌+◌, ℕ, List, [], ◌∷◌, ◌++◌, map, length, slice_get, Option, Some, None}
use Rattle.mf_tree.specs.declared.message.Key.{Key}
use Rattle.mf_tree.specs.declared.message.Variant.{Variant}
use Rattle.mf_tree.specs.declared.name.Name.{Name}
use Rattle.mf_value.specs.ErrorLists.{Calls}
use Rattle.mf_value.specs.Meaning.{Meaning}
use Rattle.mf_value.specs.Selection.{after_column, after_key, after_keys_from, after_literal, after_selector, after_selectors, matched, rank, ranked_key, selector_value}
use Rattle.mf_value.specs.declared.value.Value.{Value}
use Rattle.mf_resolve.specs.Gathering.{Advances, Gathers}
use Rattle.mf_resolve.specs.Resolving.{ScopeState, bound_of}
use Rattle.mf_select.specs.Choosing.{selector_values}
use Rattle.mf_select.specs.declared.ranks.Ranks.{Ranks}

-- a selector is resolved
pub record ResolvesSelector (meaning : Meaning) (old new : ScopeState) (name : Name) (value : Value) : Type 0 where
  pub advances : Advances meaning old new (after_selector meaning old.arguments (bound_of meaning old) name)
  pub value_is : (calls : Calls) → Gathers meaning old calls → value ≡ selector_value meaning old.arguments (bound_of meaning old) name

-- selectors are
pub record ResolvesSelectors (meaning : Meaning) (old new : ScopeState) (names : List Name) (values : List Value) : Type 0 where
  pub advances : Advances meaning old new (after_selectors meaning old.arguments (bound_of meaning old) names)
  pub values_are : (calls : Calls) → Gathers meaning old calls → values ≡ selector_values meaning old names

-- the rank of a key that may not be there
abbrev pub key_rank : Meaning → Value → Option Key → Option ℕ
key_rank meaning value None = None
key_rank meaning value (Some key) = rank meaning value key

-- the ranks of the keys of one column, by variants
abbrev pub column_ranks : Meaning → ℕ → Value → List Variant → List (Option ℕ)
column_ranks meaning column value variants = map (λ (variant : Variant). key_rank meaning value (slice_get variant.keys column)) variants

-- of columns from one on
abbrev pub ranks_from : Meaning → ℕ → List Value → List Variant → List (Option ℕ)
ranks_from meaning column [] variants = []
ranks_from meaning column (value ∷ values) variants = column_ranks meaning column value variants ++ ranks_from meaning (column + 1) values variants

-- a literal key is ranked
pub record RanksLiteral (meaning : Meaning) (old new : ScopeState) (value : Value) (key : List ℕ) (found : Option ℕ) : Type 0 where
  pub advances : Advances meaning old new (after_literal meaning value key)
  pub rank_is : found ≡ matched (ranked_key meaning value key)

-- a key is
pub record RanksKey (meaning : Meaning) (old new : ScopeState) (value : Value) (key : Option Key) (found : Option ℕ) : Type 0 where
  pub advances : Advances meaning old new (after_key meaning value key)
  pub rank_is : found ≡ key_rank meaning value key

-- the keys of one column are, behind other ranks
pub record RanksColumn (meaning : Meaning) (old new : ScopeState) (column : ℕ) (value : Value) (variants : List Variant) (before after : List (Option ℕ)) : Type 0 where
  pub advances : Advances meaning old new (after_column meaning column value variants)
  pub ranks_are : after ≡ before ++ column_ranks meaning column value variants

-- all keys are
pub record RanksKeys (meaning : Meaning) (old new : ScopeState) (values : List Value) (variants : List Variant) (ranks : Ranks) : Type 0 where
  pub advances : Advances meaning old new (after_keys_from meaning 0 values variants)
  pub ranks_are : ranks ≡ record { ranks = ranks_from meaning 0 values variants; columns = length values; variants = length variants }

-- the keys of the first columns are
pub record RanksFront (meaning : Meaning) (old new : ScopeState) (values : List Value) (variants : List Variant) (ranks : List (Option ℕ)) : Type 0 where
  pub advances : Advances meaning old new (after_keys_from meaning 0 values variants)
  pub ranks_are : ranks ≡ ranks_from meaning 0 values variants
