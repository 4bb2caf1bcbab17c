-- Many that are gathered one after another: those so far, and those that are found behind them.
use Rattle.std.proofs.Common.{◌≡◌, ◌<◌, ℕ, Bool, true, false, ◌==◌, Some, None, List, [], ◌∷◌, ◌++◌, refl, ap, sym, ◌∙◌, append_assoc, length}
use Rattle.std.proofs.lemmas.List.{append-nil}
use Rattle.mf_text.specs.Characters.{is_name_start}
use Rattle.mf_lex.specs.Computed.{after_space, has_space}
use Rattle.mf_tree.specs.declared.expression.OptionNode.{OptionNode}
use Rattle.mf_tree.specs.declared.expression.Attribute.{Attribute}
use Rattle.mf_tree.specs.declared.name.Name.{Name}
use Rattle.mf_tree.specs.declared.message.Key.{Key}
use Rattle.mf_tree.specs.declared.message.Variant.{Variant}
use Rattle.mf_parse.specs.Computed.{Found, made, onto, many, is_spaced, option_at, options_at, attribute_at, attributes_at, variable_at, selectors_at, key_at, begins_key, further_keys_at, variant_at, begins_variant, further_variants_at}
use Rattle.mf_parse.proofs.Complete.{options_shorten}
use Rattle.mf_parse.proofs.CompletePlaceholders.{attributes_shorten}
use Rattle.mf_parse.proofs.CompleteMessages.{selectors_shorten, keys_shorten, variants_shorten}
use Rattle.mf_parse.proofs.Finding.{made_by, made_none, many_stop, many_some, many_none, Shortens}

-- those so far stand in front of what is found
abbrev pub Gathered : {X : Type 0} → Found (List X) → List X → Found (List X) → Type 0
Gathered all xs rest = all ≡ made (λ more. xs ++ more) rest

pub gathered_start : {X : Type 0} (found : Found (List X)) (xs : List X) → xs ≡ [] → Gathered found xs found
gathered_start None xs empty = refl
gathered_start (Some (ys, left)) xs empty = ap (λ xs. Some (xs ++ ys, left)) (sym empty)

pub gathered_more : {X : Type 0} (x : X) (xs all : List X) (rest : Found (List X)) → all ≡ xs ++ x ∷ [] → made (λ more. xs ++ more) (made (onto x) rest) ≡ made (λ more. all ++ more) rest
gathered_more x xs all None is = refl
gathered_more x xs all (Some (ys, left)) is = ap (λ ys. Some (ys, left)) (sym (append_assoc xs (x ∷ []) ys) ∙ ap (λ xs. xs ++ ys) (sym is))

pub gathered_step : {X : Type 0} (begins : List ℕ → Bool) (at : List ℕ → Found X) → begins [] ≡ false → Shortens begins at →
    (all : Found (List X)) (x : X) (xs more : List X) (cs left : List ℕ) → Gathered all xs (many begins at cs) → begins cs ≡ true → at cs ≡ Some (x, left) → more ≡ xs ++ x ∷ [] → Gathered all more (many begins at left)
gathered_step begins at empty shortens all x xs more cs left gathered some finds is =
    gathered ∙ ap (made (λ more. xs ++ more)) (many_some begins at empty shortens cs x left some finds) ∙ gathered_more x xs more (many begins at left) is

pub gathered_stop : {X : Type 0} (begins : List ℕ → Bool) (at : List ℕ → Found X) (all : Found (List X)) (xs : List X) (cs left : List ℕ) → Gathered all xs (many begins at cs) → begins cs ≡ false → left ≡ cs → all ≡ Some (xs, left)
gathered_stop begins at all xs cs left gathered stop same =
    gathered ∙ made_by (λ more. xs ++ more) (many begins at cs) [] cs (many_stop begins at cs stop) ∙ ap (λ xs. Some (xs, cs)) (append-nil xs) ∙ ap (λ cs. Some (xs, cs)) (sym same)

pub gathered_none : {X : Type 0} (begins : List ℕ → Bool) (at : List ℕ → Found X) → begins [] ≡ false → (all : Found (List X)) (xs : List X) (cs : List ℕ) → Gathered all xs (many begins at cs) → begins cs ≡ true → at cs ≡ None → all ≡ None
gathered_none begins at empty all xs cs gathered some none = gathered ∙ made_none (λ more. xs ++ more) (many begins at cs) (many_none begins at empty cs some none)

-- a list whose members stand behind white space
pub record Spaced {X : Type 0} (begins : List ℕ → Bool) (at : List ℕ → Found X) (all_at : List ℕ → Found (List X)) : Type 0 where
  pub empty : begins [] ≡ false
  pub shortens : Shortens begins (λ cs. at (after_space cs))
  pub each : (cs : List ℕ) → all_at cs ≡ many begins (λ cs. at (after_space cs)) cs

module _ {X : Type 0} (begins : List ℕ → Bool) (at : List ℕ → Found X) (all_at : List ℕ → Found (List X)) (spaced : Spaced begins at all_at) where
  -- one that is found is gathered
  pub spaced_step : (all : Found (List X)) (x : X) (xs more : List X) (cs place left : List ℕ) → Gathered all xs (all_at cs) → begins cs ≡ true → place ≡ after_space cs → at place ≡ Some (x, left) → more ≡ xs ++ x ∷ []
      → Gathered all more (all_at left)
  spaced_step all x xs more cs place left gathered some there finds is =
      gathered_step begins (λ cs. at (after_space cs)) spaced.empty spaced.shortens all x xs more cs left (gathered ∙ ap (made (λ more. xs ++ more)) (spaced.each cs)) some (ap at (sym there) ∙ finds) is
      ∙ ap (made (λ rest. more ++ rest)) (sym (spaced.each left))

  -- where none begins, all are gathered
  pub spaced_stop : (all : Found (List X)) (xs : List X) (cs left : List ℕ) → Gathered all xs (all_at cs) → begins cs ≡ false → left ≡ cs → all ≡ Some (xs, left)
  spaced_stop all xs cs left gathered stop same = gathered_stop begins (λ cs. at (after_space cs)) all xs cs left (gathered ∙ ap (made (λ more. xs ++ more)) (spaced.each cs)) stop same

  -- where one begins and isn't found, nothing is
  spaced_none : (all : Found (List X)) (xs : List X) (cs place : List ℕ) → Gathered all xs (all_at cs) → begins cs ≡ true → place ≡ after_space cs → at place ≡ None → all ≡ None
  spaced_none all xs cs place gathered some there none =
      gathered_none begins (λ cs. at (after_space cs)) spaced.empty all xs cs (gathered ∙ ap (made (λ more. xs ++ more)) (spaced.each cs)) some (ap at (sym there) ∙ none)

  pub spaced_shorter : (x : X) (cs place left : List ℕ) → begins cs ≡ true → place ≡ after_space cs → at place ≡ Some (x, left) → length left < length cs
  spaced_shorter x cs place left some there finds = spaced.shortens cs x left some (ap at (sym there) ∙ finds)

pub options_spaced : Spaced (is_spaced is_name_start) option_at options_at
unfolding options_at has_space
options_spaced = record { empty = refl; shortens = options_shorten; each = λ cs. refl }

pub option_none : (all : Found (List OptionNode)) (xs : List OptionNode) (cs place : List ℕ) → Gathered all xs (options_at cs) → (is_spaced is_name_start) cs ≡ true → place ≡ after_space cs → option_at place ≡ None → all ≡ None
option_none = spaced_none (is_spaced is_name_start) option_at options_at options_spaced

pub attributes_spaced : Spaced (is_spaced (λ c. c == 0x40)) attribute_at attributes_at
unfolding attributes_at has_space
attributes_spaced = record { empty = refl; shortens = attributes_shorten; each = λ cs. refl }

pub attribute_none : (all : Found (List Attribute)) (xs : List Attribute) (cs place : List ℕ) → Gathered all xs (attributes_at cs) → (is_spaced (λ c. c == 0x40)) cs ≡ true → place ≡ after_space cs → attribute_at place ≡ None → all ≡ None
attribute_none = spaced_none (is_spaced (λ c. c == 0x40)) attribute_at attributes_at attributes_spaced

pub selectors_spaced : Spaced (is_spaced (λ c. c == 0x24)) variable_at selectors_at
unfolding selectors_at has_space
selectors_spaced = record { empty = refl; shortens = selectors_shorten; each = λ cs. refl }

pub selector_none : (all : Found (List Name)) (xs : List Name) (cs place : List ℕ) → Gathered all xs (selectors_at cs) → (is_spaced (λ c. c == 0x24)) cs ≡ true → place ≡ after_space cs → variable_at place ≡ None → all ≡ None
selector_none = spaced_none (is_spaced (λ c. c == 0x24)) variable_at selectors_at selectors_spaced

pub keys_spaced : Spaced begins_key key_at further_keys_at
unfolding further_keys_at has_space
keys_spaced = record { empty = refl; shortens = keys_shorten; each = λ cs. refl }

pub key_none : (all : Found (List Key)) (xs : List Key) (cs place : List ℕ) → Gathered all xs (further_keys_at cs) → begins_key cs ≡ true → place ≡ after_space cs → key_at place ≡ None → all ≡ None
key_none = spaced_none begins_key key_at further_keys_at keys_spaced

pub variants_spaced : Spaced begins_variant variant_at further_variants_at
unfolding further_variants_at after_space
variants_spaced = record { empty = refl; shortens = variants_shorten; each = λ cs. refl }

pub variant_none : (all : Found (List Variant)) (xs : List Variant) (cs place : List ℕ) → Gathered all xs (further_variants_at cs) → begins_variant cs ≡ true → place ≡ after_space cs → variant_at place ≡ None → all ≡ None
variant_none = spaced_none begins_variant variant_at further_variants_at variants_spaced
