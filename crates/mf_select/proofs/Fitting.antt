-- What a message without check errors says of its variants.
use Rattle.std.proofs.Common.{◌≡◌, ◌==◌, ◌<◌, ◌&&◌, ◌||◌, ℕ, zero, suc, Bool, true, false, not, cond, List, [], ◌∷◌, ◌++◌, map, take, length, slice_get, Some, None, refl, sym, ap, ◌∙◌, inl, inr, arith}
use Rattle.std.proofs.Math.Seq.{append_snoc}
use Rattle.std.proofs.lemmas.Bool.{cases_Bool, eq-eqb, eqb-true}
use Rattle.std.proofs.lemmas.List.{append-nil}
use Rattle.std.proofs.lemmas.Option.{slice_get_within}
use Rattle.std.specs.Prelude.{filter}
use Rattle.std.specs.List.{list_all, list_any}
use Rattle.std.specs.Cmp.Lexicographic.{pointwise}
use Rattle.unicode_normalization.specs.Forms.{nfc}
use Rattle.mf_tree.specs.Equality.{is_same_key, is_same_keys, is_star}
use Rattle.mf_tree.specs.Faults.{Member, has_key_for_each, is_duplicate_variant, is_fallback, members_from}
use Rattle.mf_tree.specs.declared.fault.Fault.{Fault}
use Rattle.mf_tree.specs.declared.fault.Kind.TheVariants.{MissingFallbackVariant}
use Rattle.mf_tree.specs.declared.message.Key.{Key}
use Rattle.mf_tree.specs.declared.message.Key.TheVariants.{Literal, Star}
use Rattle.mf_tree.specs.declared.message.Variant.{Variant}
use Rattle.mf_tree.specs.declared.name.Name.{Name}
use Rattle.mf_value.specs.Meaning.{Meaning}
use Rattle.mf_value.specs.Selection.{Chosen, matched, rank, rank_list, ranked_key}
use Rattle.mf_value.specs.Values.{selects_nothing}
use Rattle.mf_value.specs.declared.called.Ranked.{Ranked}
use Rattle.mf_value.specs.declared.called.Ranked.TheVariants as ranked
use Rattle.mf_value.specs.declared.value.Value.{Value}
use Rattle.mf_select.specs.Choosing.{CanChoose, IsFirst, TellsKeys}
use Rattle.mf_select.specs.Ranks.{IsBest, row}
use Rattle.mf_select.specs.Stepping.{ranks_from}
use Rattle.mf_select.proofs.Rows.{have_ranks, ranks_at, row_is, stars_match, with_is}

or_right : (a b : Bool) → b ≡ true → (a || b) ≡ true
or_right true b is = refl
or_right false b is = is

and_left : (a b : Bool) → (a && b) ≡ true → a ≡ true
and_left true b is = refl
and_left false b is = cc

and_right : (a b : Bool) → (a && b) ≡ true → b ≡ true
and_right true b is = is
and_right false b is = cc

and_both : (a b : Bool) → a ≡ true → b ≡ true → (a && b) ≡ true
and_both true b a_is b_is = b_is
and_both false b a_is b_is = cc

is_not : (b : Bool) → not b ≡ false → b ≡ true
is_not true is = refl
is_not false is = cc

member_at : {X : Type 0} → (xs : List X) (i : ℕ) → i < length xs → (x : X) × (slice_get xs i ≡ Some x)
member_at [] i below = absurd (omega arith)
member_at (x ∷ xs) zero below = (x, refl)
member_at (x ∷ xs) (suc i) below = member_at xs i (omega arith)

rest_none : {X : Type 0} → (fault : X → Fault) (test : X → Bool) (first : X) (xs : List X) → map fault (filter test (first ∷ xs)) ≡ [] →
    (test first ≡ false) × (map fault (filter test xs) ≡ [])
rest_none fault test first xs none = elim (cases_Bool (test first)) [
  | inl has ↦
      let clash : fault first ∷ map fault (filter test xs) ≡ [] = sym (ap (λ b. map fault (cond b (first ∷ filter test xs) (filter test xs))) has) ∙ none in
      cc
  | inr has_not ↦ (has_not, sym (ap (λ b. map fault (cond b (first ∷ filter test xs) (filter test xs))) has_not) ∙ none)
]

-- where no member has an error, none passes the test
no_fault : {X : Type 0} → (fault : Member X → Fault) (test : Member X → Bool) (xs earlier : List X) (i : ℕ) (x : X) →
    map fault (filter test (members_from earlier xs)) ≡ [] → slice_get xs i ≡ Some x → test (record { earlier = earlier ++ take i xs; this = x }) ≡ false
no_fault fault test [] earlier i x none is = cc
no_fault fault test (own ∷ xs) earlier zero x none is =
    let same : own ≡ x = cc in
    let first = rest_none fault test (record { earlier = earlier; this = own }) (members_from (earlier ++ own ∷ []) xs) none in
    ap (λ front. test (record { earlier = front; this = x })) (append-nil earlier) ∙ ap (λ this. test (record { earlier = earlier; this = this })) (sym same) ∙ first.0
no_fault fault test (own ∷ xs) earlier (suc i) x none is =
    let first = rest_none fault test (record { earlier = earlier; this = own }) (members_from (earlier ++ own ∷ []) xs) none in
    ap (λ front. test (record { earlier = front; this = x })) (sym (append_snoc earlier own (take i xs)))
    ∙ no_fault fault test xs (earlier ++ own ∷ []) i x first.1 is

-- what is tested so is there
any_at : {X : Type 0} → (test : X → Bool) (xs : List X) → list_any test xs ≡ true → (i : ℕ) × (x : X) × (slice_get xs i ≡ Some x) × (test x ≡ true)
any_at test [] is = cc
any_at test (x ∷ xs) is = elim (cases_Bool (test x)) [
  | inl has ↦ (0, x, refl, has)
  | inr has_not ↦
      let found = any_at test xs (sym (ap (λ b. b || list_any test xs) has_not) ∙ is) in
      (suc found.0, found.1, found.2, found.3)
]

any_before : {X : Type 0} → (test : X → Bool) (xs : List X) (p q : ℕ) (x : X) → slice_get xs p ≡ Some x → p < q → test x ≡ true → list_any test (take q xs) ≡ true
any_before test [] p q x is less has = cc
any_before test (own ∷ xs) p zero x is less has = absurd (omega arith)
any_before test (own ∷ xs) zero (suc q) x is less has =
    let same : own ≡ x = cc in
    ap (λ (o : _). test o || list_any test (take q xs)) same ∙ ap (λ b. b || list_any test (take q xs)) has
any_before test (own ∷ xs) (suc p) (suc q) x is less has = or_right (test own) _ (any_before test xs p q x is (omega arith) has)

module _ (selectors : List Name) (variants : List Variant) (can : CanChoose selectors variants) where
  -- a variant has a key for each selector
  pub keyed : (place : ℕ) (variant : Variant) → slice_get variants place ≡ Some variant → length variant.keys ≡ length selectors
  keyed place variant is =
      eqb-true (length variant.keys) (length selectors)
      (is_not _ (no_fault _ (λ (m : Member Variant). not (has_key_for_each selectors m.this)) variants [] place variant can.keyed is))

  any_fallback : list_any (is_fallback selectors) variants ≡ true
  any_fallback = elim (cases_Bool (list_any (is_fallback selectors) variants)) [
    | inl is ↦ is
    | inr not_any ↦
        let one : Fault = record { kind = MissingFallbackVariant; of = [] } in
        let clash : one ∷ [] ≡ [] = sym (ap (λ b. cond b [] (one ∷ [])) not_any) ∙ can.fallback in
        cc
  ]

  -- some variant matches
  pub some_match : (meaning : Meaning) (values : List Value) → length values ≡ length selectors →
      ((place : ℕ) → place < length variants → row (length values) (length variants) place (ranks_from meaning 0 values variants) ≡ None) → ⊥
  some_match meaning values long none =
      let found = any_at (is_fallback selectors) variants any_fallback in
      let place : ℕ = found.0 in
      let variant : Variant = found.1 in
      let stars : list_all is_star variant.keys ≡ true = and_right (has_key_for_each selectors variant) _ found.3 in
      let fits : length variant.keys ≡ length values = keyed place variant found.2 ∙ sym long in
      let ranks = stars_match meaning values variant.keys fits stars in
      let clash : None ≡ Some ranks.0 = sym (none place (slice_get_within variants place variant found.2)) ∙ row_is meaning variants place variant found.2 values fits ∙ ranks.1 in
      cc

  -- the first of the variants whose ranks are least
  pub first_of : (meaning : Meaning) (values : List Value) → length values ≡ length selectors → (best : ℕ) →
      IsBest (λ place. row (length values) (length variants) place (ranks_from meaning 0 values variants)) (length variants) (Some best) → IsFirst meaning values variants best
  first_of meaning values long best is =
      let member = member_at variants best is.within in
      let variant : Variant = member.0 in
      record {
        ranks = is.ranks;
        matches = have_ranks meaning values variants best variant is.ranks member.1
            (sym (row_is meaning variants best variant member.1 values (keyed best variant member.1 ∙ sym long)) ∙ is.matches);
        least = λ other others apart has.
            let found = ranks_at meaning values variants other others has in
            is.least other others (slice_get_within variants other found.0 found.1) apart
            (row_is meaning variants other found.0 found.1 values (keyed other found.0 found.1 ∙ sym long) ∙ found.2);
      }

-- Equal ranks need equal keys.

same_text : (text : List ℕ) → pointwise ◌==◌ text text ≡ true
same_text [] = refl
same_text (c ∷ text) = and_both _ _ (eq-eqb c c refl) (same_text text)

never_any : (found : Ranked) → matched found ≡ Some 2 → ⊥
never_any ranked.Exact is = cc
never_any ranked.Keyword is = cc
never_any ranked.Never is = cc
never_any ranked.BadKey is = cc

module _ (meaning : Meaning) (tells : TellsKeys meaning.rank) where
  ranked_so : (value : Value) (key : List ℕ) (found : ℕ) → matched (ranked_key meaning value key) ≡ Some found → matched (meaning.rank value key) ≡ Some found
  ranked_so value key found is = elim (cases_Bool (selects_nothing value.selects)) [
    | inl nothing ↦ let clash : None ≡ Some found = sym (ap (λ b. matched (cond b ranked.Never (meaning.rank value key))) nothing) ∙ is in cc
    | inr selects ↦ sym (ap (λ b. matched (cond b ranked.Never (meaning.rank value key))) selects) ∙ is
  ]

  same_key : (value : Value) (key other : Key) (found : ℕ) → rank meaning value key ≡ Some found → rank meaning value other ≡ Some found → is_same_key key other ≡ true
  same_key value Star Star found one two = refl
  same_key value Star (Literal text) found one two =
      let is : Some 2 ≡ Some found = one in
      absurd (never_any (ranked_key meaning value text) (two ∙ sym is))
  same_key value (Literal text) Star found one two =
      let is : Some 2 ≡ Some found = two in
      absurd (never_any (ranked_key meaning value text) (one ∙ sym is))
  same_key value (Literal text) (Literal second) found one two =
      let equal : nfc text ≡ nfc second = tells value text second found (ranked_so value text found one) (ranked_so value second found two) in
      ap (λ form. pointwise ◌==◌ (nfc text) form) (sym equal) ∙ same_text (nfc text)

  same_keys : (values : List Value) (keys others : List Key) (ranks : List ℕ) → rank_list meaning values keys ≡ Some ranks → rank_list meaning values others ≡ Some ranks →
      is_same_keys keys others ≡ true
  same_keys [] [] [] ranks one two = refl
  same_keys [] [] (other ∷ others) ranks one two = cc
  same_keys [] (key ∷ keys) others ranks one two = cc
  same_keys (value ∷ values) [] others ranks one two = cc
  same_keys (value ∷ values) (key ∷ keys) [] ranks one two = cc
  same_keys (value ∷ values) (key ∷ keys) (other ∷ others) ranks one two =
      let a = with_is (rank meaning value key) (rank_list meaning values keys) ranks one in
      let b = with_is (rank meaning value other) (rank_list meaning values others) ranks two in
      let both : a.0 ∷ a.1 ≡ b.0 ∷ b.1 = sym a.4 ∙ b.4 in
      let first : b.0 ≡ a.0 = cc in
      let rest : b.1 ≡ a.1 = cc in
      and_both _ _
      (same_key value key other a.0 a.2 (b.2 ∙ ap Some first))
      (same_keys values keys others a.1 a.3 (b.3 ∙ ap Some rest))

  -- the first is the chosen one
  pub first_is_chosen : (selectors : List Name) (values : List Value) (variants : List Variant) (place : ℕ) → CanChoose selectors variants →
      IsFirst meaning values variants place → Chosen meaning values variants place
  first_is_chosen selectors values variants place can first = record {
    ranks = first.ranks;
    matches = first.matches;
    least = λ other others apart has. elim (first.least other others apart has) [
      | inl less ↦ less
      | inr tie ↦
          let one = ranks_at meaning values variants place first.ranks first.matches in
          let two = ranks_at meaning values variants other others has in
          let same : is_same_keys two.0.keys one.0.keys ≡ true =
          same_keys values two.0.keys one.0.keys others two.2 (one.2 ∙ ap Some tie.0) in
          let there = any_before (λ (v : Variant). is_same_keys two.0.keys v.keys) variants place other one.0 one.1 tie.1 same in
          let none = no_fault _ is_duplicate_variant variants [] other two.0 can.distinct two.1 in
          let clash : true ≡ false = sym there ∙ none in
          cc
    ];
  }
