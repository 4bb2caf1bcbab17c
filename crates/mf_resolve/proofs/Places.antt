-- The places of declarations, after one declaration more; and what a variable stands for.
use Rattle.std.proofs.Common.{◌≡◌, ◌<◌, ◌≤◌, ◌+◌, nat_eq, ℕ, true, false, cond, List, [], ◌∷◌, ◌++◌, take, length, get_or, Option, Some, None, refl, sym, ap, subst, ◌∙◌, inl, inr, arith}
use Rattle.std.proofs.lemmas.Bool.{cases_Bool, le-ltb, lt-ltb}
use Rattle.std.proofs.lemmas.List.{length-take-le, take_more}
use Rattle.std.specs.Borrow.{Bor}
use Rattle.std.specs.BTreeMap.{BTreeMap, Updates, get, is_at}
use Rattle.std.specs.Cmp.Lexicographic.{bytes_decides, pointwise}
use Rattle.std.specs.Option.{is_some, option_or}
use Rattle.mf_text.specs.Order.{byte_cmp_ties}
use Rattle.mf_text.specs.declared.arguments.Argued.{Argued}
use Rattle.mf_tree.specs.Equality.{is_same_name}
use Rattle.mf_tree.specs.Faults.{name_of}
use Rattle.mf_tree.specs.declared.message.Declaration.{Declaration}
use Rattle.mf_tree.specs.declared.name.Name.{Name}
use Rattle.mf_resolve.specs.Sources.{HasPlaces, IsSource, Key, key_cmp, place_below, place_from}
use Rattle.mf_resolve.specs.declared.variable.Source.TheVariants as source

-- What a variable stands for.

below_some : (limit : ℕ) (found : Option ℕ) (place : ℕ) → found ≡ Some place → place < limit → place_below limit found ≡ Some place
below_some limit found place is below = ap (place_below limit) is ∙ ap (λ b. cond b (Some place) None) (lt-ltb place limit below)

pub below_none : (limit : ℕ) (found : Option ℕ) → found ≡ None → place_below limit found ≡ None
below_none limit found is = ap (place_below limit) is

pub below_past : (limit : ℕ) (found : Option ℕ) (place : ℕ) → found ≡ Some place → limit ≤ place → place_below limit found ≡ None
below_past limit found place is past = ap (place_below limit) is ∙ ap (λ b. cond b (Some place) None) (le-ltb place limit past)

pub source_declared : (limit : ℕ) (found : Option ℕ) (argued : Option Argued) (place : ℕ) → found ≡ Some place → place < limit → IsSource (place_below limit found) argued (source.Declared place)
source_declared limit found argued place is below = subst (λ f. IsSource f argued (source.Declared place)) (sym (below_some limit found place is below)) refl

pub source_argument : (below : Option ℕ) (argued : Option Argued) (given : Bor Argued) → below ≡ None → argued ≡ Some given.now → IsSource below argued (source.Argument given)
source_argument below argued given none is =
    subst (λ f. IsSource f argued (source.Argument given)) (sym none) (subst (λ a. IsSource None a (source.Argument given)) (sym is) refl)

pub source_nothing : (below : Option ℕ) (argued : Option Argued) → below ≡ None → argued ≡ None → IsSource below argued source.Nothing
source_nothing below argued none is = subst (λ f. IsSource f argued source.Nothing) (sym none) (subst (λ a. IsSource None a source.Nothing) (sym is) tt)

-- The first declaration of each variable.

place_more : (ds : List Declaration) (p : ℕ) (d : Declaration) (name : Name) →
    place_from p name (ds ++ d ∷ []) ≡ option_or (place_from p name ds) (cond (is_same_name (name_of d) name) (Some (p + length ds)) None)
place_more [] p d name = ap (λ at. cond (is_same_name (name_of d) name) (Some at) None) (let same : p ≡ p + 0 = omega arith in same)
place_more (own ∷ ds) p d name = elim (cases_Bool (is_same_name (name_of own) name)) [
  | inl same ↦
      ap (λ b. cond b (Some p) (place_from (p + 1) name (ds ++ d ∷ []))) same
      ∙ sym (ap (λ b. option_or (cond b (Some p) (place_from (p + 1) name ds)) (cond (is_same_name (name_of d) name) (Some (p + length (own ∷ ds))) None)) same)
  | inr other ↦
      ap (λ b. cond b (Some p) (place_from (p + 1) name (ds ++ d ∷ []))) other
      ∙ place_more ds (p + 1) d name
      ∙ ap (λ at. option_or (place_from (p + 1) name ds) (cond (is_same_name (name_of d) name) (Some at) None)) (let same : p + 1 + length ds ≡ p + length (own ∷ ds) = omega arith in same)
      ∙ sym (ap (λ b. option_or (cond b (Some p) (place_from (p + 1) name ds)) (cond (is_same_name (name_of d) name) (Some (p + length (own ∷ ds))) None)) other)
]

among_more : (ds : List Declaration) (i : ℕ) (d : Declaration) (name : Name) → i < length ds → d ≡ get_or ds i d →
    place_from 0 name (take (i + 1) ds) ≡ option_or (place_from 0 name (take i ds)) (cond (is_same_name (name_of d) name) (Some i) None)
among_more ds i d name inside is =
    ap (place_from 0 name) (take_more ds i d inside ∙ ap (λ d. take i ds ++ d ∷ []) (sym is))
    ∙ place_more (take i ds) 0 d name
    ∙ ap (λ at. option_or (place_from 0 name (take i ds)) (cond (is_same_name (name_of d) name) (Some at) None))
    (let count = length-take-le i ds (omega arith) in let same : 0 + length (take i ds) ≡ i = omega arith in same)

-- names with one value have one place
same_place : (ds : List Declaration) (p : ℕ) (one other : Name) → one.value ≡ other.value → place_from p one ds ≡ place_from p other ds
same_place [] p one other same = refl
same_place (d ∷ ds) p one other same =
    ap (λ value. cond (pointwise nat_eq (name_of d).value value) (Some p) (place_from (p + 1) one ds)) same
    ∙ ap (λ rest. cond (is_same_name (name_of d) other) (Some p) rest) (same_place ds (p + 1) one other same)

names_tied : (k l : Key) (x y : Name) → k.now ≡ x.value → l.now ≡ y.value → is_at (key_cmp k) l ≡ is_same_name x y
names_tied k l x y k_is l_is =
    sym (byte_cmp_ties k.now l.now)
    ∙ ap (λ a. pointwise nat_eq a l.now) k_is
    ∙ ap (λ b. pointwise nat_eq x.value b) l_is

or_none : {X : Type 0} → (o : Option X) → o ≡ option_or o None
or_none None = refl
or_none (Some x) = refl

or_some : {X : Type 0} → (o p : Option X) → is_some o ≡ true → o ≡ option_or o p
or_some None p is = cc
or_some (Some x) p is = refl

is_none : {X : Type 0} → (o : Option X) → is_some o ≡ false → o ≡ None
is_none None is = refl
is_none (Some x) is = cc

module _ (ds : List Declaration) (i : ℕ) (d : Declaration) (key : Key) (inside : i < length ds) (is : d ≡ get_or ds i d) (of : key.now ≡ (name_of d).value) where
  abbrev old_place : Name → Option ℕ
  old_place name = place_from 0 name (take i ds)

  abbrev last_place : Name → Option ℕ
  last_place name = cond (is_same_name (name_of d) name) (Some i) None

  -- whether there was a declaration of that variable
  there : (places : BTreeMap Key ℕ) (name : Name) → HasPlaces (take i ds) places → is_same_name (name_of d) name ≡ true → is_some (old_place name) ≡ is_some (get key_cmp places key)
  there places name has same =
      ap is_some (same_place (take i ds) 0 name (name_of d) (sym ((bytes_decides (name_of d).value name.value).0 same)))
      ∙ ap is_some (sym (has.each (name_of d) key of))

  pub skipped : (places : BTreeMap Key ℕ) → HasPlaces (take i ds) places → is_some (get key_cmp places key) ≡ true → HasPlaces (take (i + 1) ds) places
  skipped places has some = record {
    each = λ name other of_other.
        has.each name other of_other
        ∙ elim (cases_Bool (is_same_name (name_of d) name)) [
          | inl same ↦ or_some (old_place name) (last_place name) (there places name has same ∙ some)
          | inr different ↦ or_none (old_place name) ∙ ap (λ b. option_or (old_place name) (cond b (Some i) None)) (sym different)
        ]
        ∙ sym (among_more ds i d name inside is);
  }

  pub entered : (old new : BTreeMap Key ℕ) → HasPlaces (take i ds) old → is_some (get key_cmp old key) ≡ false →
      Updates key_cmp old new key (Some i) → HasPlaces (take (i + 1) ds) new
  entered old new has none updates = record {
    each = λ name other of_other.
        updates.0 other
        ∙ ap (λ b. cond b (Some i) (get key_cmp old other)) (names_tied key other (name_of d) name of of_other)
        ∙ elim (cases_Bool (is_same_name (name_of d) name)) [
          | inl same ↦
              ap (λ b. cond b (Some i) (get key_cmp old other)) same
              ∙ ap (λ o. option_or o (Some i)) (sym (is_none (old_place name) (there old name has same ∙ none)))
              ∙ ap (λ b. option_or (old_place name) (cond b (Some i) None)) (sym same)
          | inr different ↦
              ap (λ b. cond b (Some i) (get key_cmp old other)) different
              ∙ has.each name other of_other
              ∙ or_none (old_place name)
              ∙ ap (λ b. option_or (old_place name) (cond b (Some i) None)) (sym different)
        ]
        ∙ sym (among_more ds i d name inside is);
  }
