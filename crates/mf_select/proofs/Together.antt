-- Selectors, keys and the least ranks, together.
use Rattle.std.proofs.Common.{◌≡◌, ℕ, List, length, Option, Some, None, sym, ap, subst, ◌∙◌}
use Rattle.std.specs.Option.{unwrap_or}
use Rattle.mf_tree.specs.declared.message.Variant.{Variant}
use Rattle.mf_tree.specs.declared.name.Name.{Name}
use Rattle.mf_value.specs.ErrorLists.{Calls}
use Rattle.mf_value.specs.Meaning.{Meaning}
use Rattle.mf_value.specs.Selection.{after_keys_from, after_selectors, selector_value}
use Rattle.mf_value.specs.declared.value.Value.{Value}
use Rattle.mf_resolve.specs.Gathering.{Gathers}
use Rattle.mf_resolve.specs.Resolving.{ScopeState, bound_of}
use Rattle.mf_select.specs.Choosing.{CanChoose, Chooses, IsFirst, selector_values}
use Rattle.mf_select.specs.Ranks.{IsBest, row, row_of}
use Rattle.mf_select.specs.Stepping.{RanksKeys, ResolvesSelectors, ranks_from}
use Rattle.mf_select.specs.declared.ranks.Ranks.{Ranks}
use Rattle.mf_select.proofs.Fitting.{first_is_chosen, first_of, some_match}
use Rattle.mf_select.proofs.Rows.{map_length}

module _ (meaning : Meaning) (old mid new : ScopeState) (selectors : List Name) (variants : List Variant) (can : CanChoose selectors variants)
    (values : List Value) (ranks : Ranks) (resolves : ResolvesSelectors meaning old mid selectors values) (ranked : RanksKeys meaning mid new values variants ranks) where
  from_best : length values ≡ length selectors → (best : Option ℕ) →
      IsBest (λ place. row (length values) (length variants) place (ranks_from meaning 0 values variants)) (length variants) best → IsFirst meaning values variants (unwrap_or best 0)
  from_best long None is = absurd (some_match selectors variants can meaning values long is)
  from_best long (Some best) is = first_of selectors variants can meaning values long best is

  module _ (best : Option ℕ) (place : ℕ) (is : IsBest (row_of ranks) ranks.variants best) (place_is : place ≡ unwrap_or best 0) where
    first : (calls : Calls) → Gathers meaning old calls → IsFirst meaning (selector_values meaning old selectors) variants place
    first calls gathers =
        let values_are = resolves.values_are calls gathers in
        let long : length values ≡ length selectors = ap length values_are ∙ map_length (selector_value meaning old.arguments (bound_of meaning old)) selectors in
        subst (λ (vs : List Value). IsFirst meaning vs variants place) values_are
        (subst (IsFirst meaning values variants) (sym place_is)
        (from_best long best (subst (λ (r : Ranks). IsBest (row_of r) r.variants best) ranked.ranks_are is)))

    pub chooses : Chooses meaning old new selectors variants place
    chooses = record {
      advances = record {
        arguments = ranked.advances.arguments ∙ resolves.advances.arguments;
        declarations = ranked.advances.declarations ∙ resolves.advances.declarations;
        gathers = λ calls gathers.
            let after : Calls = after_selectors meaning old.arguments (bound_of meaning old) selectors calls in
            subst (λ (vs : List Value). Gathers meaning new (after_keys_from meaning 0 vs variants after)) (resolves.values_are calls gathers)
            (ranked.advances.gathers after (resolves.advances.gathers calls gathers));
      };
      first = first;
      chosen = λ tells calls gathers. first_is_chosen meaning tells selectors (selector_values meaning old selectors) variants place can (first calls gathers);
    }
