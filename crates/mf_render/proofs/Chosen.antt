-- The pattern that is shown.
use Rattle.std.proofs.Common.{◌≡◌, ◌<◌, ℕ, zero, suc, List, [], ◌∷◌, length, slice_index_or, Some, refl, sym, subst, arith}
use Rattle.std.specs.Prelude.{option_map, slice_get}
use Rattle.mf_tree.specs.declared.message.Body.{Body}
use Rattle.mf_tree.specs.declared.message.Body.TheVariants as body
use Rattle.mf_tree.specs.declared.message.Variant.{Variant}
use Rattle.mf_tree.specs.declared.name.Name.{Name}
use Rattle.mf_tree.specs.declared.pattern.Piece.{Piece}
use Rattle.mf_value.specs.ErrorLists.{no_calls}
use Rattle.mf_value.specs.Meaning.{Meaning}
use Rattle.mf_value.specs.Selection.{after_selection}
use Rattle.mf_resolve.specs.Gathering.{Gathers}
use Rattle.mf_resolve.specs.Resolving.{ScopeState, bound_of}
use Rattle.mf_select.specs.Choosing.{Chooses, TellsKeys}
use Rattle.mf_render.specs.Showing.{Finds}

-- what stands at a place stands in the list
inside : {A B : Type 0} (f : A → B) (things : List A) (place : ℕ) (thing : B) → option_map f (slice_get things place) ≡ Some thing → place < length things
inside f [] place thing is = cc
inside f (first ∷ things) zero thing is = omega arith
inside f (first ∷ things) (suc place) thing is = let below = inside f things place thing is in omega arith

there : {A B : Type 0} (f : A → B) (things : List A) (place : ℕ) (other : A) → place < length things →
    option_map f (slice_get things place) ≡ Some (f (slice_index_or things place other))
there f [] place other below = absurd (omega arith)
there f (first ∷ things) zero other below = refl
there f (first ∷ things) (suc place) other below = there f things place other (omega arith)

module _ (meaning : Meaning) (old new : ScopeState) where
  pub chosen_inside : (selectors : List Name) (variants : List Variant) (place : ℕ) → Gathers meaning old no_calls → Chooses meaning old new selectors variants place →
      place < length variants
  chosen_inside selectors variants place gathers chooses = inside _ variants place _ (chooses.first no_calls gathers).matches

  pub finds_variant : (shape : Body) (selectors : List Name) (variants : List Variant) (place : ℕ) (other : Variant) → shape ≡ body.Match selectors variants →
      TellsKeys meaning.rank → Gathers meaning old no_calls → Chooses meaning old new selectors variants place →
      Finds meaning old new shape (slice_index_or variants place other).pattern
  finds_variant shape selectors variants place other is tells gathers chooses =
      subst (λ (b : Body). Finds meaning old new b (slice_index_or variants place other).pattern) (sym is)
      (record {
        after = after_selection meaning old.arguments (bound_of meaning old) selectors variants;
        advances = chooses.advances;
        shows = λ locale. (
          record {
            place = place;
            chosen = chooses.chosen tells no_calls gathers;
            is = there (λ (variant : Variant). variant.pattern) variants place other (chosen_inside selectors variants place gathers chooses);
          },
          refl,
        );
      })

  pub finds_pattern : (shape : Body) (pattern : List Piece) → shape ≡ body.Pattern pattern → Finds meaning old old shape pattern
  finds_pattern shape pattern is =
      subst (λ (b : Body). Finds meaning old old b pattern) (sym is)
      (record {
        after = λ calls. calls;
        advances = record { arguments = refl; declarations = refl; gathers = λ calls gathers. gathers };
        shows = λ locale. (refl, refl);
      })
