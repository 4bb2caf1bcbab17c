-- What is in a set after one key more.
use Rattle.std.proofs.Common.{◌≡◌, ◌<◌, ◌+◌, ℕ, Bool, true, false, ◌||◌, cond, not, List, [], ◌∷◌, map, take, length, get_or, Option, Some, None, refl, ap, sym, ◌∙◌, nat_eq}
use Rattle.std.proofs.lemmas.Cmp.{nat_list_eq_equiv}
use Rattle.std.proofs.lemmas.List.Folds.{list_any_more}
use Rattle.std.specs.BTreeMap.{is_at}
use Rattle.std.specs.BTreeSet.{BTreeSet, contains, Updates}
use Rattle.std.specs.Cmp.{both_tied}
use Rattle.std.specs.Cmp.Lexicographic.{pointwise, slice_cmp}
use Rattle.std.specs.List.{list_any}
use Rattle.std.specs.Option.{option_cmp, option_copied, option_eq, option_map}
use Rattle.std.specs.Ordering.{eq_by_cmp}
use Rattle.std.specs.declared.cmp.Ordering.{Ordering}
use Rattle.unicode_normalization.specs.Forms.{nfc}
use Rattle.mf_text.specs.Order.{byte_cmp, byte_cmp_ties}
use Rattle.mf_tree.specs.declared.name.Name.{Name}
use Rattle.mf_tree.specs.declared.name.Identifier.{Identifier}
use Rattle.mf_tree.specs.declared.message.Key.{Key}
use Rattle.mf_tree.specs.declared.message.Key.TheVariants as Keys
use Rattle.mf_tree.specs.Equality.{is_same_identifier, is_same_key, is_same_keys, is_same_name}
use Rattle.mf_check.specs.KeyValues.{key_value}
use Rattle.mf_check.specs.Seen.{value_cmp, AreSeen, AreSeenToo, AreValuesOf, IsValueOf, Value, Values}
use Rattle.mf_check.proofs.SeenKeys.{key_values_cmp, values_cmp, AreKeyValuesOf, KeyValues}

or_swapped : (a b : Bool) → (a || b) ≡ (b || a)
or_swapped true true = refl
or_swapped true false = refl
or_swapped false true = refl
or_swapped false false = refl

or_chosen : (a b : Bool) → cond a true b ≡ (a || b)
or_chosen true b = refl
or_chosen false b = refl

-- what an insertion tells
pub was_there : (is_new there : Bool) → is_new ≡ not there → is_new ≡ false → there ≡ true
was_there is_new true is old = refl
was_there is_new false is old = cc

pub was_not_there : (is_new there : Bool) → is_new ≡ not there → is_new ≡ true → there ≡ false
was_not_there is_new true is new = cc
was_not_there is_new false is new = refl

module _ {K X : Type 0} (cmp : K → K → Ordering) (IsKeyOf : K → X → Type 0) (same : X → X → Bool)
    (tied : (k l : K) (x y : X) → IsKeyOf k x → IsKeyOf l y → is_at (cmp k) l ≡ same y x) where
  -- a key that is inserted
  pub inserted : (x : X) (key : K) (old new : BTreeSet K) → IsKeyOf key x → Updates cmp old new key true → AreSeenToo cmp IsKeyOf (λ y. same y x) old new
  inserted x key old new is updates = record {
    each = λ y other is_other.
        updates.0 other
        ∙ or_chosen (is_at (cmp key) other) (contains cmp old other)
        ∙ ap (λ b. b || contains cmp old other) (tied key other x y is is_other);
  }

-- what was seen, and what is seen too
module _ {K X Y : Type 0} (cmp : K → K → Ordering) (IsKeyOf : K → X → Type 0) (test : X → Y → Bool) (xs : List Y) (i : ℕ) (x : Y) (inside : i < length xs) (is : x ≡ get_or xs i x) where
  any_more : (y : X) → (test y x || list_any (test y) (take i xs)) ≡ list_any (test y) (take (i + 1) xs)
  any_more y =
      or_swapped (test y x) (list_any (test y) (take i xs))
      ∙ ap (λ z. list_any (test y) (take i xs) || test y z) is
      ∙ sym (list_any_more (test y) xs i x inside)

  pub seen_more : (old new : BTreeSet K) → AreSeen cmp IsKeyOf (λ y. list_any (test y) (take i xs)) old → AreSeenToo cmp IsKeyOf (λ y. test y x) old new →
      AreSeen cmp IsKeyOf (λ y. list_any (test y) (take (i + 1) xs)) new
  seen_more old new before too = record {
    each = λ y key of. too.each y key of ∙ ap (λ b. test y x || b) (before.each y key of) ∙ any_more y;
  }

  or_moved : (a b c : Bool) → (a || (b || c)) ≡ ((a || b) || c)
  or_moved true b c = refl
  or_moved false b c = refl

  pub seen_too_more : (first old new : BTreeSet K) → AreSeenToo cmp IsKeyOf (λ y. list_any (test y) (take i xs)) first old → AreSeenToo cmp IsKeyOf (λ y. test y x) old new →
      AreSeenToo cmp IsKeyOf (λ y. list_any (test y) (take (i + 1) xs)) first new
  seen_too_more first old new before too = record {
    each = λ y key of.
        too.each y key of
        ∙ ap (λ b. test y x || b) (before.each y key of)
        ∙ or_moved (test y x) (list_any (test y) (take i xs)) (contains cmp first key)
        ∙ ap (λ b. b || contains cmp first key) (any_more y);
  }

-- what is seen one after the other
module _ {K X : Type 0} (cmp : K → K → Ordering) (IsKeyOf : K → X → Type 0) where
  or_turned : (a b c d : Bool) → (c || (b || (a || d))) ≡ ((a || (b || c)) || d)
  or_turned true true true d = refl
  or_turned true true false d = refl
  or_turned true false true d = refl
  or_turned true false false d = refl
  or_turned false true true d = refl
  or_turned false true false d = refl
  or_turned false false true d = refl
  or_turned false false false d = refl

  pub three_too : (first second third : X → Bool) (s t u v : BTreeSet K) → AreSeenToo cmp IsKeyOf first s t → AreSeenToo cmp IsKeyOf second t u → AreSeenToo cmp IsKeyOf third u v →
      AreSeenToo cmp IsKeyOf (λ x. first x || (second x || third x)) s v
  three_too first second third s t u v one two three = record {
    each = λ x key of.
        three.each x key of
        ∙ ap (λ b. third x || b) (two.each x key of)
        ∙ ap (λ b. third x || (second x || b)) (one.each x key of)
        ∙ or_turned (first x) (second x) (third x) (contains cmp s key);
  }

-- names
pub names_tied : (k l : Value) (x y : Name) → IsValueOf k x → IsValueOf l y → is_at (value_cmp k) l ≡ is_same_name y x
names_tied k l x y k_is l_is =
    sym (byte_cmp_ties k.now l.now)
    ∙ nat_list_eq_equiv.symm k.now l.now
    ∙ ap (λ a. pointwise nat_eq a k.now) l_is
    ∙ ap (λ b. pointwise nat_eq y.value b) k_is

-- identifiers
namespaces_tied : (k l : Option Value) (x y : Option Name) → option_copied k ≡ option_map (λ (name : Name). name.value) x → option_copied l ≡ option_map (λ (name : Name). name.value) y →
    option_eq is_same_name y x ≡ eq_by_cmp (option_cmp value_cmp) k l
namespaces_tied None None None None k_is l_is = refl
namespaces_tied None None None (Some y) k_is l_is = cc
namespaces_tied None None (Some x) y k_is l_is = cc
namespaces_tied None (Some l) None None k_is l_is = cc
namespaces_tied None (Some l) None (Some y) k_is l_is = refl
namespaces_tied None (Some l) (Some x) y k_is l_is = cc
namespaces_tied (Some k) l None y k_is l_is = cc
namespaces_tied (Some k) None (Some x) None k_is l_is = refl
namespaces_tied (Some k) None (Some x) (Some y) k_is l_is = cc
namespaces_tied (Some k) (Some l) (Some x) None k_is l_is = cc
namespaces_tied (Some k) (Some l) (Some x) (Some y) k_is l_is =
    let k_of : k.now ≡ x.value = cc in
    let l_of : l.now ≡ y.value = cc in
    sym (names_tied k l x y k_of l_of)

pub identifiers_tied : (k l : Values) (x y : Identifier) → AreValuesOf k x → AreValuesOf l y → is_at (values_cmp k) l ≡ is_same_identifier y x
identifiers_tied k l x y k_is l_is =
    sym (both_tied _ _ (option_cmp value_cmp k.0 l.0) (value_cmp k.1 l.1)
    (namespaces_tied k.0 l.0 x.namespace y.namespace k_is.namespace l_is.namespace)
    (sym (names_tied k.1 l.1 x.name y.name k_is.name l_is.name)))

-- keys
key_tied : (x y : Key) → is_same_key y x ≡ eq_by_cmp (option_cmp byte_cmp) (key_value x) (key_value y)
key_tied Keys.Star Keys.Star = refl
key_tied Keys.Star (Keys.Literal y) = refl
key_tied (Keys.Literal x) Keys.Star = refl
key_tied (Keys.Literal x) (Keys.Literal y) = nat_list_eq_equiv.symm (nfc y) (nfc x) ∙ byte_cmp_ties (nfc x) (nfc y)

key_lists_tied : (xs ys : List Key) → is_same_keys ys xs ≡ eq_by_cmp (slice_cmp (option_cmp byte_cmp)) (map key_value xs) (map key_value ys)
key_lists_tied [] [] = refl
key_lists_tied [] (y ∷ ys) = refl
key_lists_tied (x ∷ xs) [] = refl
key_lists_tied (x ∷ xs) (y ∷ ys) = both_tied _ _ (option_cmp byte_cmp (key_value x) (key_value y)) (slice_cmp (option_cmp byte_cmp) (map key_value xs) (map key_value ys)) (key_tied x y) (key_lists_tied xs ys)

pub keys_tied : (k l : KeyValues) (x y : List Key) → AreKeyValuesOf k x → AreKeyValuesOf l y → is_at (key_values_cmp k) l ≡ is_same_keys y x
keys_tied k l x y k_is l_is =
    ap (λ a. eq_by_cmp (slice_cmp (option_cmp byte_cmp)) a l.items) k_is
    ∙ ap (λ b. eq_by_cmp (slice_cmp (option_cmp byte_cmp)) (map key_value x) b) l_is
    ∙ sym (key_lists_tied x y)
