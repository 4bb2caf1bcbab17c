-- How many messages of an edition were served.
use Rattle.std.proofs.Common.{◌≡◌, ◌∙◌, ◌⊎◌, inl, inr, ℕ, zero, suc, ◌+◌, ◌<◌, ◌≤◌, ◌==◌, Bool, true, false, not, ◌||◌, List, [], ◌∷◌, ◌++◌, length, cond, if◌then◌else◌, Less, Equal, Greater, refl, ap, sym, arith}
use Rattle.std.specs.BTreeSet.{BTreeSet, btree_set_len, contains, Updates}
use Rattle.std.specs.List.{list_any}
use Rattle.std.specs.Ordering.{is_eq, nat_cmp}
use Rattle.std.specs.Cmp.{nat_cmp_is}
use Rattle.std.proofs.lemmas.Bool.{cases_eq, cases_lt, eq-eqb, ne_eqb}
use Rattle.std.proofs.lemmas.List.Folds.{list_any-append}
use Rattle.mf_legal.specs.Calls.{one_if}
use Rattle.mf_transcript.specs.Served.{count_among}
use Rattle.mf_history.specs.Served.{IsServed}

abbrev has : ℕ → List ℕ → Bool
has i indexes = list_any (λ index. index == i) indexes

or_false : (b : Bool) → (b || (false || false)) ≡ b
or_false true = refl
or_false false = refl

or_true : (b : Bool) → (b || (true || false)) ≡ true
or_true true = refl
or_true false = refl

-- one more index
has_other : (indexes : List ℕ) (i j : ℕ) → (i ≡ j → ⊥) → has j (indexes ++ i ∷ []) ≡ has j indexes
has_other indexes i j apart =
    list_any-append (λ index. index == j) indexes (i ∷ []) ∙ ap (λ b. has j indexes || (b || false)) (ne_eqb i j apart) ∙ or_false (has j indexes)

has_it : (indexes : List ℕ) (i : ℕ) → has i (indexes ++ i ∷ []) ≡ true
has_it indexes i = list_any-append (λ index. index == i) indexes (i ∷ []) ∙ ap (λ b. has i indexes || (b || false)) (eq-eqb i i refl) ∙ or_true (has i indexes)

count_above : (indexes : List ℕ) (i n : ℕ) → n ≤ i → count_among (indexes ++ i ∷ []) n ≡ count_among indexes n
count_above indexes i zero above = refl
count_above indexes i (suc n) above =
    let rest = count_above indexes i n (omega (arith, above)) in
    let here = ap one_if (has_other indexes i n (λ same. omega (arith, same, above))) in
    omega (arith, rest, here)

one_or : (b : Bool) → 1 ≡ one_if b + one_if (not b)
one_or true = refl
one_or false = refl

count_more : (indexes : List ℕ) (i n : ℕ) → i < n → count_among (indexes ++ i ∷ []) n ≡ count_among indexes n + one_if (not (has i indexes))
count_more indexes i zero inside = absurd (omega (arith, inside))
count_more indexes i (suc n) inside = by (cases_eq i n) (count_more indexes i n)
  where
    by : (i ≡ n) ⊎ (i ≡ n → ⊥) → (i < n → count_among (indexes ++ i ∷ []) n ≡ count_among indexes n + one_if (not (has i indexes)))
        → count_among (indexes ++ i ∷ []) (suc n) ≡ count_among indexes (suc n) + one_if (not (has i indexes))
    by (inl same) further =
        let before = count_above indexes i n (omega (arith, same)) in
        let here = ap (λ m. one_if (has m (indexes ++ i ∷ []))) (sym same) ∙ ap one_if (has_it indexes i) in
        let there = ap (λ m. one_if (has m indexes)) (sym same) in
        omega (arith, before, here, there, one_or (has i indexes))
    by (inr apart) further =
        let before = further (omega (arith, inside, apart)) in
        let here = ap one_if (has_other indexes i n apart) in
        omega (arith, before, here)

pub count_none : (n : ℕ) → count_among [] n ≡ 0
count_none zero = refl
count_none (suc n) = omega (arith, count_none n)

tied_is : (i j : ℕ) → i ≡ j → is_eq (nat_cmp i j) ≡ true
tied_is i j same = ap is_eq (sym (nat_cmp_is i j Equal same))

tied_other : (i j : ℕ) → (i ≡ j → ⊥) → is_eq (nat_cmp i j) ≡ false
tied_other i j apart = by (cases_lt i j)
  where
    by : (i < j) ⊎ (j ≤ i) → is_eq (nat_cmp i j) ≡ false
    by (inl less) = ap is_eq (sym (nat_cmp_is i j Less less))
    by (inr most) = let more : j < i = omega (arith, most, apart) in ap is_eq (sym (nat_cmp_is i j Greater more))

-- one more message was served
pub serve_one : (served new : BTreeSet ℕ) (index : ℕ) (added : Bool) → added ≡ not (contains nat_cmp served index) → Updates nat_cmp served new index true
    → btree_set_len new ≡ btree_set_len served + (if added then 1 else 0)
    → (indexes : List ℕ) (items : ℕ) → IsServed served indexes items → index < items → IsServed new (indexes ++ index ∷ []) items
serve_one served new index added is updates len indexes items before inside = record { has = λ i. by i (cases_eq index i); count = count }
  where
    by : (i : ℕ) → (index ≡ i) ⊎ (index ≡ i → ⊥) → contains nat_cmp new i ≡ has i (indexes ++ index ∷ [])
    by i (inl same) =
        updates.0 i ∙ ap (λ b. cond b true (contains nat_cmp served i)) (tied_is index i same)
        ∙ sym (ap (λ n. has n (indexes ++ index ∷ [])) (sym same) ∙ has_it indexes index)
    by i (inr apart) =
        updates.0 i ∙ ap (λ b. cond b true (contains nat_cmp served i)) (tied_other index i apart) ∙ before.has i ∙ sym (has_other indexes index i apart)

    count : btree_set_len new ≡ count_among (indexes ++ index ∷ []) items
    count =
        let more = count_more indexes index items inside in
        let fresh = ap (λ b. one_if (not b)) (before.has index) in
        let adds = ap one_if is in
        omega (arith, more, fresh, adds, len, before.count)

-- no message was served
pub serves_none : (served : BTreeSet ℕ) (items : ℕ) → served.keys ≡ [] → IsServed served [] items
serves_none served items none = record {
  has = λ i. ap (λ keys. list_any (λ key. is_eq (nat_cmp i key)) keys) none;
  count = ap length none ∙ sym (count_none items);
}
