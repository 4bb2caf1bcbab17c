-- Which variant of a message is chosen, and the errors of its selectors and keys (Unicode TS 35, Part 9, "Pattern Selection";
-- the errors and their order are this project's own).
use Rattle.std.specs.Prelude.{◌≡◌, ◌≢◌, ◌<◌, ◌+◌, ◌⊎◌, ℕ, Bool, true, false, List, [], ◌∷◌, slice_get, map, Option, Some, None, option_map, if◌then◌else◌}
use Rattle.mf_text.specs.declared.arguments.Argued.{Argued}
use Rattle.mf_text.specs.declared.pair.Pair.{Pair}
use Rattle.mf_tree.specs.Faults.{identifier_text, variable_text}
use Rattle.mf_tree.specs.declared.fault.Kind.TheVariants.{BadSelector, BadVariantKey}
use Rattle.mf_tree.specs.declared.message.Key.{Key}
use Rattle.mf_tree.specs.declared.message.Key.TheVariants.{Literal, Star}
use Rattle.mf_tree.specs.declared.message.Variant.{Variant}
use Rattle.mf_tree.specs.declared.name.Name.{Name}
use Rattle.mf_tree.specs.declared.pattern.Markup.{Markup}
use Rattle.mf_value.specs.ErrorLists.{Calls, after_adding, after_call}
use Rattle.mf_value.specs.Meaning.{Meaning}
use Rattle.mf_value.specs.Traces.{Bound, Handed, Node, Optioned, Placed, at_operand, handed_from, id_set, of_markup, option_faults, option_traces, variable_trace, variable_value}
use Rattle.mf_value.specs.Values.{selects_nothing}
use Rattle.mf_value.specs.declared.called.Ranked.{Ranked}
use Rattle.mf_value.specs.declared.called.Ranked.TheVariants as ranked
use Rattle.mf_value.specs.declared.value.Value.{Value}

-- what markup comes to: its options with their option texts, its id, and its errors
pub record MarkupTrace : Type 0 where
  pub options : List Pair
  pub id : Option (List ℕ)
  pub faults : List Placed

abbrev pub markup_option : Handed → Pair
markup_option option = record { name = identifier_text option.given.name; value = option.given.value }

abbrev pub markup_of : List Optioned → MarkupTrace
markup_of options = record { options = map markup_option (handed_from 0 options); id = id_set None options; faults = option_faults options }

-- how well a key matches, the least number being the best: the value itself, its category, any value; none where it doesn't
abbrev pub matched : Ranked → Option ℕ
matched ranked.Exact = Some 0
matched ranked.Keyword = Some 1
matched ranked.Never = None
matched ranked.BadKey = None

abbrev pub is_bad_key : Ranked → Bool
is_bad_key ranked.Exact = false
is_bad_key ranked.Keyword = false
is_bad_key ranked.Never = false
is_bad_key ranked.BadKey = true

abbrev pub with_rank : Option ℕ → Option (List ℕ) → Option (List ℕ)
with_rank None others = None
with_rank (Some rank) None = None
with_rank (Some rank) (Some ranks) = Some (rank ∷ ranks)

-- of two lists of ranks the first is less: the first selector counts most
abbrev pub IsLess : List ℕ → List ℕ → Type 0
IsLess [] others = ⊥
IsLess (rank ∷ ranks) [] = ⊥
IsLess (rank ∷ ranks) (other ∷ others) = (rank < other) ⊎ ((rank ≡ other) × IsLess ranks others)

-- With the functions of a request.
module _ (meaning : Meaning) where
  -- a value that can't select matches `*` alone
  abbrev pub ranked_key : Value → List ℕ → Ranked
  ranked_key value key = if selects_nothing value.selects then ranked.Never else meaning.rank value key

  abbrev pub rank : Value → Key → Option ℕ
  rank value Star = Some 2
  rank value (Literal key) = matched (ranked_key value key)

  -- the ranks of a variant's keys, one for each selector, where each has one
  abbrev pub rank_list : List Value → List Key → Option (List ℕ)
  rank_list [] [] = Some []
  rank_list (value ∷ values) (key ∷ keys) = with_rank (rank value key) (rank_list values keys)
  rank_list [] (key ∷ keys) = None
  rank_list (value ∷ values) [] = None

  -- the variant at a place has these ranks
  abbrev pub Ranks : List Value → List Variant → ℕ → List ℕ → Type 0
  Ranks values variants place ranks = option_map (λ (variant : Variant). rank_list values variant.keys) (slice_get variants place) ≡ Some (Some ranks)

  -- the variant at a place is the chosen one: each of its keys matches, and each other variant whose keys all match has a
  -- greater list of ranks
  pub record Chosen (values : List Value) (variants : List Variant) (place : ℕ) : Type 0 where
    pub ranks : List ℕ
    pub matches : Ranks values variants place ranks
    pub least : (other : ℕ) (others : List ℕ) → other ≢ place → Ranks values variants other others → IsLess ranks others

  -- bad-variant-key: the key of a selector that can select is none for its value; column by column, in each by variants
  abbrev pub after_literal : Value → List ℕ → Calls → Calls
  after_literal value key calls =
      if is_bad_key (ranked_key value key) then after_adding (record { kind = BadVariantKey; of = key }) calls else calls

  abbrev pub after_key : Value → Option Key → Calls → Calls
  after_key value None calls = calls
  after_key value (Some Star) calls = calls
  after_key value (Some (Literal key)) calls = after_literal value key calls

  abbrev pub after_column : ℕ → Value → List Variant → Calls → Calls
  after_column column value [] calls = calls
  after_column column value (variant ∷ variants) calls =
      after_column column value variants (after_key value (slice_get variant.keys column) calls)

  abbrev pub after_keys_from : ℕ → List Value → List Variant → Calls → Calls
  after_keys_from column [] variants calls = calls
  after_keys_from column (value ∷ values) variants calls =
      after_keys_from (column + 1) values variants (after_column column value variants calls)

-- With the arguments of a request, too.
module _ (meaning : Meaning) (arguments : List (List ℕ × Argued)) where
  abbrev pub markup_trace : List Bound → Node → Markup → MarkupTrace
  markup_trace bound node markup = markup_of (option_traces meaning arguments of_markup bound node markup.options)

  abbrev pub selector_value : List Bound → Name → Value
  selector_value bound name = variable_value meaning arguments bound name

  -- bad-selector, where the selector can't select
  abbrev pub after_selecting : Name → Value → Calls → Calls
  after_selecting name value calls =
      if selects_nothing value.selects then after_adding (record { kind = BadSelector; of = variable_text name }) calls else calls

  abbrev pub selector_faults : List Bound → Name → Node → List Placed
  selector_faults bound name node = (variable_trace meaning arguments bound node at_operand name).faults

  -- a selector is resolved
  abbrev pub after_selector : List Bound → Name → Calls → Calls
  after_selector bound name calls = after_selecting name (selector_value bound name) (after_call (selector_faults bound name) calls)

  abbrev pub after_selectors : List Bound → List Name → Calls → Calls
  after_selectors bound [] calls = calls
  after_selectors bound (name ∷ names) calls = after_selectors bound names (after_selector bound name calls)

  -- the selectors from left to right, then the keys
  abbrev pub after_selection : List Bound → List Name → List Variant → Calls → Calls
  after_selection bound names variants calls =
      after_keys_from meaning 0 (map (selector_value bound) names) variants (after_selectors bound names calls)
