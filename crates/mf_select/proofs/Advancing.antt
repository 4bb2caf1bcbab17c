-- Selectors and keys one after the other, over plain variables.
use Rattle.std.proofs.Common.{◌≡◌, ◌<◌, ◌+◌, ℕ, true, false, cond, List, [], ◌∷◌, ◌++◌, map, take, length, slice_get, Option, refl, sym, ap, subst, ◌∙◌, arith}
use Rattle.std.proofs.lemmas.List.{append-nil, append_assoc, length-take-le, map-append}
use Rattle.mf_text.specs.declared.arguments.Argued.{Argued}
use Rattle.mf_tree.specs.Faults.{variable_text}
use Rattle.mf_tree.specs.declared.fault.Fault.{Fault}
use Rattle.mf_tree.specs.declared.fault.Kind.TheVariants.{BadSelector, BadVariantKey}
use Rattle.mf_tree.specs.declared.message.Variant.{Variant}
use Rattle.mf_tree.specs.declared.name.Name.{Name}
use Rattle.mf_value.specs.ErrorLists.{Calls, after_adding, after_call}
use Rattle.mf_value.specs.Meaning.{Meaning}
use Rattle.mf_value.specs.Selection.{after_column, after_key, after_keys_from, after_literal, after_selector, after_selectors, is_bad_key, matched, ranked_key, selector_faults, selector_value}
use Rattle.mf_value.specs.Traces.{Bound, bound_variables}
use Rattle.mf_value.specs.Values.{selects_nothing}
use Rattle.mf_value.specs.declared.called.Ranked.{Ranked}
use Rattle.mf_value.specs.declared.called.Ranked.TheVariants as ranked
use Rattle.mf_value.specs.declared.value.Value.{Value}
use Rattle.mf_resolve.specs.Gathering.{Adds, Advances, Gathers, GivesVariable}
use Rattle.mf_resolve.specs.Resolving.{ScopeState, bound_of}
use Rattle.mf_select.specs.Stepping.{RanksColumn, RanksFront, RanksKey, RanksLiteral, ResolvesSelector, ResolvesSelectors, column_ranks, key_rank, ranks_from}

-- the scope of the same message and arguments has the same variables
pub same_bound : (meaning : Meaning) (old mid : ScopeState) → mid.arguments ≡ old.arguments → mid.declarations ≡ old.declarations →
    (P : List (List ℕ × Argued) → List Bound → Type 0) → P mid.arguments (bound_of meaning mid) → P old.arguments (bound_of meaning old)
same_bound meaning old mid arguments_are declarations_are P held =
    subst (λ arguments. P arguments (bound_variables meaning arguments old.declarations)) arguments_are
    (subst (λ declarations. P mid.arguments (bound_variables meaning mid.arguments declarations)) declarations_are held)

pub advances_none : (meaning : Meaning) (scope : ScopeState) → Advances meaning scope scope (λ calls. calls)
advances_none meaning scope = record { arguments = refl; declarations = refl; gathers = λ calls gathers. gathers }

pub advances_both : (meaning : Meaning) (a b c : ScopeState) (f g : Calls → Calls) → Advances meaning a b f → Advances meaning b c g →
    Advances meaning a c (λ calls. g (f calls))
advances_both meaning a b c f g first second = record {
  arguments = second.arguments ∙ first.arguments;
  declarations = second.declarations ∙ first.declarations;
  gathers = λ calls gathers. second.gathers (f calls) (first.gathers calls gathers);
}

-- the same, written otherwise
pub advances_as : (meaning : Meaning) (a b : ScopeState) (f g : Calls → Calls) → ((calls : Calls) → f calls ≡ g calls) → Advances meaning a b f → Advances meaning a b g
advances_as meaning a b f g same step = record {
  arguments = step.arguments;
  declarations = step.declarations;
  gathers = λ calls gathers. subst (Gathers meaning b) (same calls) (step.gathers calls gathers);
}

-- Selectors.

module _ (meaning : Meaning) (old mid : ScopeState) (name : Name) (value : Value) (gives : GivesVariable meaning old mid name value) where
  abbrev resolved : Calls → Calls
  resolved calls = after_call (selector_faults meaning old.arguments (bound_of meaning old) name) calls

  abbrev bad : Fault
  bad = record { kind = BadSelector; of = variable_text name }

  -- a value that can't select
  pub selector_bad : (new : ScopeState) (of : List ℕ) → of ≡ variable_text name → selects_nothing value.selects ≡ true →
      Adds mid new (record { kind = BadSelector; of = of }) → ResolvesSelector meaning old new name value
  selector_bad new of of_is is adds =
      let added = adds meaning in
      record {
        advances = record {
          arguments = added.arguments ∙ gives.advances.arguments;
          declarations = added.declarations ∙ gives.advances.declarations;
          gathers = λ calls gathers.
              subst (Gathers meaning new)
              (ap (λ text. after_adding (record { kind = BadSelector; of = text }) (resolved calls)) of_is
              ∙ sym (ap (λ b. cond b (after_adding bad (resolved calls)) (resolved calls))
              (ap (λ (v : Value). selects_nothing v.selects) (sym (gives.value_is calls gathers)) ∙ is)))
              (added.gathers (resolved calls) (gives.advances.gathers calls gathers));
        };
        value_is = gives.value_is;
      }

  -- a value that can
  pub selector_good : selects_nothing value.selects ≡ false → ResolvesSelector meaning old mid name value
  selector_good is = record {
    advances = record {
      arguments = gives.advances.arguments;
      declarations = gives.advances.declarations;
      gathers = λ calls gathers.
          subst (Gathers meaning mid)
          (sym (ap (λ b. cond b (after_adding bad (resolved calls)) (resolved calls))
          (ap (λ (v : Value). selects_nothing v.selects) (sym (gives.value_is calls gathers)) ∙ is)))
          (gives.advances.gathers calls gathers);
    };
    value_is = gives.value_is;
  }

selectors_more : (meaning : Meaning) (arguments : List (List ℕ × Argued)) (bound : List Bound) (names : List Name) (last : Name) (calls : Calls) →
    after_selectors meaning arguments bound (names ++ last ∷ []) calls ≡ after_selector meaning arguments bound last (after_selectors meaning arguments bound names calls)
selectors_more meaning arguments bound [] last calls = refl
selectors_more meaning arguments bound (name ∷ names) last calls = selectors_more meaning arguments bound names last (after_selector meaning arguments bound name calls)

pub selectors_none : (meaning : Meaning) (scope : ScopeState) → ResolvesSelectors meaning scope scope [] []
selectors_none meaning scope = record { advances = advances_none meaning scope; values_are = λ calls gathers. refl }

-- one selector more
pub selector_more : (meaning : Meaning) (old mid new : ScopeState) (names : List Name) (name : Name) (values : List Value) (value : Value) →
    ResolvesSelectors meaning old mid names values → ResolvesSelector meaning mid new name value → ResolvesSelectors meaning old new (names ++ name ∷ []) (values ++ value ∷ [])
selector_more meaning old mid new names name values value first second =
    let before : Calls → Calls = after_selectors meaning old.arguments (bound_of meaning old) names in
    let after : Calls → Calls = after_selector meaning old.arguments (bound_of meaning old) name in
    let value_of : Name → Value = selector_value meaning old.arguments (bound_of meaning old) in
    let advances = first.advances in
    let later : Advances meaning mid new after =
    same_bound meaning old mid advances.arguments advances.declarations (λ arguments bound. Advances meaning mid new (after_selector meaning arguments bound name)) second.advances in
    record {
      advances = advances_as meaning old new (λ calls. after (before calls)) (after_selectors meaning old.arguments (bound_of meaning old) (names ++ name ∷ []))
          (λ calls. sym (selectors_more meaning old.arguments (bound_of meaning old) names name calls))
          (advances_both meaning old mid new before after advances later);
      values_are = λ calls gathers.
          let is : value ≡ value_of name =
          same_bound meaning old mid advances.arguments advances.declarations (λ arguments bound. value ≡ selector_value meaning arguments bound name)
          (second.value_is (before calls) (advances.gathers calls gathers)) in
          ap (λ front. front ++ value ∷ []) (first.values_are calls gathers)
          ∙ ap (λ v. map value_of names ++ v ∷ []) is
          ∙ sym (map-append value_of names (name ∷ []));
    }

-- Keys.

module _ (meaning : Meaning) (scope : ScopeState) (value : Value) (key : List ℕ) (found : Ranked) (is : ranked_key meaning value key ≡ found) where
  -- a literal that may be a key
  pub literal_good : is_bad_key found ≡ false → (rank : Option ℕ) → rank ≡ matched found → RanksLiteral meaning scope scope value key rank
  literal_good good rank rank_is = record {
    advances = advances_as meaning scope scope (λ calls. calls) (after_literal meaning value key)
        (λ calls. sym (ap (λ b. cond b (after_adding (record { kind = BadVariantKey; of = key }) calls) calls) (ap is_bad_key is ∙ good)))
        (advances_none meaning scope);
    rank_is = rank_is ∙ ap matched (sym is);
  }

  -- one that is none
  pub literal_bad : is_bad_key found ≡ true → (rank : Option ℕ) → rank ≡ matched found → (new : ScopeState) (of : List ℕ) → of ≡ key →
      Adds scope new (record { kind = BadVariantKey; of = of }) → RanksLiteral meaning scope new value key rank
  literal_bad bad rank rank_is new of of_is adds = record {
    advances = advances_as meaning scope new (after_adding (record { kind = BadVariantKey; of = of })) (after_literal meaning value key)
        (λ calls.
        ap (λ text. after_adding (record { kind = BadVariantKey; of = text }) calls) of_is
        ∙ sym (ap (λ b. cond b (after_adding (record { kind = BadVariantKey; of = key }) calls) calls) (ap is_bad_key is ∙ bad)))
        (adds meaning);
    rank_is = rank_is ∙ ap matched (sym is);
  }

-- how a literal is ranked
pub ranked_nothing : (meaning : Meaning) (value : Value) (key : List ℕ) → selects_nothing value.selects ≡ true → ranked_key meaning value key ≡ ranked.Never
ranked_nothing meaning value key is = ap (λ b. cond b ranked.Never (meaning.rank value key)) is

pub ranked_by : (meaning : Meaning) (value : Value) (key : List ℕ) (found : Ranked) → selects_nothing value.selects ≡ false → found ≡ meaning.rank value key → ranked_key meaning value key ≡ found
ranked_by meaning value key found is found_is = ap (λ b. cond b ranked.Never (meaning.rank value key)) is ∙ sym found_is

column_more : (meaning : Meaning) (column : ℕ) (value : Value) (variants : List Variant) (last : Variant) (calls : Calls) →
    after_column meaning column value (variants ++ last ∷ []) calls ≡ after_key meaning value (slice_get last.keys column) (after_column meaning column value variants calls)
column_more meaning column value [] last calls = refl
column_more meaning column value (variant ∷ variants) last calls =
    column_more meaning column value variants last (after_key meaning value (slice_get variant.keys column) calls)

pub column_none : (meaning : Meaning) (scope : ScopeState) (column : ℕ) (value : Value) (ranks : List (Option ℕ)) → RanksColumn meaning scope scope column value [] ranks ranks
column_none meaning scope column value ranks = record { advances = advances_none meaning scope; ranks_are = sym (append-nil ranks) }

-- one key of a column more
pub key_more : (meaning : Meaning) (old mid new : ScopeState) (column : ℕ) (value : Value) (variants : List Variant) (last : Variant) (before ranks : List (Option ℕ)) (rank : Option ℕ) →
    RanksColumn meaning old mid column value variants before ranks → RanksKey meaning mid new value (slice_get last.keys column) rank →
    RanksColumn meaning old new column value (variants ++ last ∷ []) before (ranks ++ rank ∷ [])
key_more meaning old mid new column value variants last before ranks rank first second =
    let key_of : Variant → Option ℕ = λ variant. key_rank meaning value (slice_get variant.keys column) in
    record {
      advances = advances_as meaning old new _ (after_column meaning column value (variants ++ last ∷ []))
          (λ calls. sym (column_more meaning column value variants last calls))
          (advances_both meaning old mid new (after_column meaning column value variants) (after_key meaning value (slice_get last.keys column)) first.advances second.advances);
      ranks_are =
          ap (λ front. front ++ rank ∷ []) first.ranks_are
          ∙ ap (λ r. (before ++ column_ranks meaning column value variants) ++ r ∷ []) second.rank_is
          ∙ append_assoc before (column_ranks meaning column value variants) (key_of last ∷ [])
          ∙ ap (λ back. before ++ back) (sym (map-append key_of variants (last ∷ [])));
    }

keys_more : (meaning : Meaning) (variants : List Variant) (last : Value) (values : List Value) (column : ℕ) (calls : Calls) →
    after_keys_from meaning column (values ++ last ∷ []) variants calls ≡ after_column meaning (column + length values) last variants (after_keys_from meaning column values variants calls)
keys_more meaning variants last [] column calls =
    ap (λ at. after_column meaning at last variants calls) (let same : column ≡ column + 0 = omega arith in same)
keys_more meaning variants last (value ∷ values) column calls =
    keys_more meaning variants last values (column + 1) (after_column meaning column value variants calls)
    ∙ ap (λ at. after_column meaning at last variants (after_keys_from meaning (column + 1) values variants (after_column meaning column value variants calls)))
    (let same : column + 1 + length values ≡ column + length (value ∷ values) = omega arith in same)

ranks_more : (meaning : Meaning) (variants : List Variant) (last : Value) (values : List Value) (column : ℕ) →
    ranks_from meaning column (values ++ last ∷ []) variants ≡ ranks_from meaning column values variants ++ column_ranks meaning (column + length values) last variants
ranks_more meaning variants last [] column =
    append-nil (column_ranks meaning column last variants)
    ∙ ap (λ at. column_ranks meaning at last variants) (let same : column ≡ column + 0 = omega arith in same)
ranks_more meaning variants last (value ∷ values) column =
    ap (λ back. column_ranks meaning column value variants ++ back) (ranks_more meaning variants last values (column + 1))
    ∙ sym (append_assoc (column_ranks meaning column value variants) (ranks_from meaning (column + 1) values variants) (column_ranks meaning (column + 1 + length values) last variants))
    ∙ ap (λ at. ranks_from meaning column (value ∷ values) variants ++ column_ranks meaning at last variants)
    (let same : column + 1 + length values ≡ column + length (value ∷ values) = omega arith in same)

pub front_none : (meaning : Meaning) (scope : ScopeState) (variants : List Variant) → RanksFront meaning scope scope [] variants []
front_none meaning scope variants = record { advances = advances_none meaning scope; ranks_are = refl }

pub front_length : {X : Type 0} → (xs : List X) (i : ℕ) → i < length xs → i ≡ length (take i xs)
front_length xs i inside = let same = length-take-le i xs (omega arith) in omega arith

-- one column more
pub front_more : (meaning : Meaning) (old mid new : ScopeState) (values : List Value) (last : Value) (variants : List Variant) (column : ℕ) (ranks more : List (Option ℕ)) →
    column ≡ length values → RanksFront meaning old mid values variants ranks → RanksColumn meaning mid new column last variants ranks more →
    RanksFront meaning old new (values ++ last ∷ []) variants more
front_more meaning old mid new values last variants column ranks more at first second = record {
  advances = advances_as meaning old new _ (after_keys_from meaning 0 (values ++ last ∷ []) variants)
      (λ calls.
      ap (λ c. after_column meaning c last variants (after_keys_from meaning 0 values variants calls)) (at ∙ (let same : length values ≡ 0 + length values = omega arith in same))
      ∙ sym (keys_more meaning variants last values 0 calls))
      (advances_both meaning old mid new (after_keys_from meaning 0 values variants) (after_column meaning column last variants) first.advances second.advances);
  ranks_are =
      second.ranks_are
      ∙ ap (λ front. front ++ column_ranks meaning column last variants) first.ranks_are
      ∙ ap (λ c. ranks_from meaning 0 values variants ++ column_ranks meaning c last variants) (at ∙ (let same : length values ≡ 0 + length values = omega arith in same))
      ∙ sym (ranks_more meaning variants last values 0);
}
