-- The first declaration of each variable, after one declaration more.
use Rattle.std.proofs.Common.{◌≡◌, ◌<◌, ◌+◌, ℕ, true, false, cond, List, [], ◌∷◌, ◌++◌, take, length, get_or, Option, Some, None, refl, ap, sym, ◌∙◌, nat_eq, inl, inr, find}
use Rattle.std.proofs.lemmas.Bool.{cases_Bool}
use Rattle.std.proofs.lemmas.List.{take_more}
use Rattle.std.proofs.lemmas.List.Folds.{find-append}
use Rattle.std.specs.Borrow.{Bor}
use Rattle.std.specs.BTreeMap.{BTreeMap, get, Updates}
use Rattle.std.specs.Cmp.Lexicographic.{bytes_decides, pointwise}
use Rattle.std.specs.Option.{is_some, option_or}
use Rattle.mf_tree.specs.declared.name.Name.{Name}
use Rattle.mf_tree.specs.declared.message.Declaration.{Declaration}
use Rattle.mf_tree.specs.Equality.{is_same_name}
use Rattle.mf_tree.specs.Faults.{first_declaration, name_of}
use Rattle.mf_check.specs.Annotations.{read_declaration, HasFirst}
use Rattle.mf_check.specs.Seen.{value_cmp, IsValueOf, Value}
use Rattle.mf_check.proofs.Seen.{names_tied}

-- the first among some declarations and one more
among_more : (ds : List Declaration) (i : ℕ) (d : Declaration) (name : Name) → i < length ds → d ≡ get_or ds i d →
    first_declaration (take (i + 1) ds) name ≡ option_or (first_declaration (take i ds) name) (cond (is_same_name name (name_of d)) (Some d) None)
among_more ds i d name inside is =
    ap (λ ds. first_declaration ds name) (take_more ds i d inside ∙ ap (λ d. take i ds ++ d ∷ []) (sym is))
    ∙ find-append (λ declaration. is_same_name name (name_of declaration)) (take i ds) (d ∷ [])

-- names with one value have one declaration
pub same_first : (ds : List Declaration) (one other : Name) → is_same_name one other ≡ true → first_declaration ds one ≡ first_declaration ds other
same_first ds one other same =
    ap (λ (value : List ℕ). find (λ declaration. pointwise nat_eq value (name_of declaration).value) ds) ((bytes_decides one.value other.value).0 same)

or_none : {X : Type 0} → (o : Option X) → o ≡ option_or o None
or_none None = refl
or_none (Some x) = refl

or_some : {X : Type 0} → (o p : Option X) → is_some o ≡ true → o ≡ option_or o p
or_some None p is = cc
or_some (Some x) p is = refl

read_is_some : (o : Option (Bor Declaration)) → is_some (read_declaration o) ≡ is_some o
read_is_some None = refl
read_is_some (Some x) = refl

is_none : {X : Type 0} → (o : Option X) → is_some o ≡ false → o ≡ None
is_none None is = refl
is_none (Some x) is = cc

module _ (ds : List Declaration) (i : ℕ) (d : Declaration) (key : Value) (inside : i < length ds) (is : d ≡ get_or ds i d) (of : IsValueOf key (name_of d)) where
  -- whether there was a declaration of that variable
  there : (first : BTreeMap Value (Bor Declaration)) (name : Name) → HasFirst (take i ds) first → is_same_name name (name_of d) ≡ true →
      is_some (first_declaration (take i ds) name) ≡ is_some (get value_cmp first key)
  there first name has same =
      ap is_some (same_first (take i ds) name (name_of d) same)
      ∙ ap is_some (sym (has.each (name_of d) key of))
      ∙ read_is_some (get value_cmp first key)

  pub skipped : (first : BTreeMap Value (Bor Declaration)) → HasFirst (take i ds) first → is_some (get value_cmp first key) ≡ true → HasFirst (take (i + 1) ds) first
  skipped first has some = record {
    each = λ name value of_value.
        has.each name value of_value
        ∙ elim (cases_Bool (is_same_name name (name_of d))) [
          | inl same ↦ or_some (first_declaration (take i ds) name) (cond (is_same_name name (name_of d)) (Some d) None) (there first name has same ∙ some)
          | inr other ↦ or_none (first_declaration (take i ds) name) ∙ ap (λ b. option_or (first_declaration (take i ds) name) (cond b (Some d) None)) (sym other)
        ]
        ∙ sym (among_more ds i d name inside is);
  }

  pub entered : (old new : BTreeMap Value (Bor Declaration)) (value : Bor Declaration) → HasFirst (take i ds) old → is_some (get value_cmp old key) ≡ false → value.now ≡ d →
      Updates value_cmp old new key (Some value) → HasFirst (take (i + 1) ds) new
  entered old new value has none value_is updates = record {
    each = λ name other of_other.
        let told : read_declaration (get value_cmp new other) ≡ read_declaration (cond (is_same_name name (name_of d)) (Some value) (get value_cmp old other)) =
        ap read_declaration (updates.0 other ∙ ap (λ b. cond b (Some value) (get value_cmp old other)) (names_tied key other (name_of d) name of of_other)) in
        told
        ∙ elim (cases_Bool (is_same_name name (name_of d))) [
          | inl same ↦
              ap (λ b. read_declaration (cond b (Some value) (get value_cmp old other))) same
              ∙ ap Some value_is
              ∙ ap (λ o. option_or o (Some d)) (sym (is_none (first_declaration (take i ds) name) (there old name has same ∙ none)))
              ∙ ap (λ b. option_or (first_declaration (take i ds) name) (cond b (Some d) None)) (sym same)
          | inr different ↦
              ap (λ b. read_declaration (cond b (Some value) (get value_cmp old other))) different
              ∙ has.each name other of_other
              ∙ or_none (first_declaration (take i ds) name)
              ∙ ap (λ b. option_or (first_declaration (take i ds) name) (cond b (Some d) None)) (sym different)
        ]
        ∙ sym (among_more ds i d name inside is);
  }
