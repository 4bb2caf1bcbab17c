-- The least of some lists of ranks.
use Rattle.std.proofs.Common.{◌≡◌, ◌≢◌, ◌==◌, ◌<◌, ◌≤◌, ◌+◌, ◌-◌, ◌⊎◌, nat_lt, nat_eq, ℕ, zero, suc, Bool, true, false, cond, List, [], ◌∷◌, drop, Option, Some, None, refl, sym, ap, subst, ◌∙◌, inl, inr, arith}
use Rattle.std.proofs.lemmas.Bool.{cases_Bool, cases_lt, eq-eqb, eqb-true, lt-ltb, ltb-true}
use Rattle.std.specs.Option.{is_some}
use Rattle.mf_value.specs.Selection.{IsLess, with_rank}
use Rattle.mf_select.specs.Ranks.{IsBest, decided, difference, is_better, is_less, is_less_from, rank_at, row, row_of}
use Rattle.mf_select.specs.declared.ranks.Ranks.{Ranks}
use Rattle.mf_select.proofs.Rows.{with_is}

pub less_both : (xs ys zs : List ℕ) → IsLess xs ys → IsLess ys zs → IsLess xs zs
less_both [] ys zs first second = first
less_both (x ∷ xs) [] zs first second = absurd first
less_both (x ∷ xs) (y ∷ ys) [] first second = second
less_both (x ∷ xs) (y ∷ ys) (z ∷ zs) (inl a) (inl b) = inl (omega arith)
less_both (x ∷ xs) (y ∷ ys) (z ∷ zs) (inl a) (inr b) = inl (let same = b.0 in omega arith)
less_both (x ∷ xs) (y ∷ ys) (z ∷ zs) (inr a) (inl b) = inl (let same = a.0 in omega arith)
less_both (x ∷ xs) (y ∷ ys) (z ∷ zs) (inr a) (inr b) = inr (a.0 ∙ b.0, less_both xs ys zs a.1 b.1)

-- One step of a look at a row.

pub some_with : (rank : ℕ) (others : Option (List ℕ)) → is_some (with_rank (Some rank) others) ≡ is_some others
some_with rank None = refl
some_with rank (Some ranks) = refl

above : (a b : ℕ) → (a == b) ≡ false → nat_lt a b ≡ false → b < a
above a b differ not_less = elim (cases_lt b a) [
  | inl less ↦ less
  | inr at ↦ elim (cases_lt a b) [
    | inl below ↦ let clash : true ≡ false = sym (lt-ltb a b below) ∙ not_less in cc
    | inr level ↦ let same : a ≡ b = omega arith in let clash : true ≡ false = sym (eq-eqb a b same) ∙ differ in cc
  ]
]

pub differs : (a b : ℕ) → nat_eq a b ≡ false → a ≢ b
differs a b differ same = let clash : true ≡ false = sym (eq-eqb a b same) ∙ differ in cc

-- What two rows say.

pub compares : (columns variants place other : ℕ) (ranks : List (Option ℕ)) (xs ys : List ℕ) → row columns variants place ranks ≡ Some xs → row columns variants other ranks ≡ Some ys →
    (is_less_from columns variants place other ranks ≡ true → IsLess xs ys) × (is_less_from columns variants place other ranks ≡ false → IsLess ys xs ⊎ (ys ≡ xs))
compares zero variants place other ranks xs ys x_is y_is =
    let x_none : xs ≡ [] = cc in
    let y_none : ys ≡ [] = cc in
    ((λ less. let clash : false ≡ true = less in cc), (λ not_less. inr (y_none ∙ sym x_none)))
compares (suc columns) variants place other ranks xs ys x_is y_is =
    let x = with_is (rank_at ranks place) (row columns variants place (drop variants ranks)) xs x_is in
    let y = with_is (rank_at ranks other) (row columns variants other (drop variants ranks)) ys y_is in
    let later : Bool = is_less_from columns variants place other (drop variants ranks) in
    let rest = compares columns variants place other (drop variants ranks) x.1 y.1 x.3 y.3 in
    let is : difference (rank_at ranks place) (rank_at ranks other) ≡ cond (x.0 == y.0) None (Some (nat_lt x.0 y.0)) =
    ap (λ r. difference r (rank_at ranks other)) x.2 ∙ ap (difference (Some x.0)) y.2 in
    elim (cases_Bool (x.0 == y.0)) [
      | inl same ↦
          let equal : x.0 ≡ y.0 = eqb-true x.0 y.0 same in
          let at : is_less_from (suc columns) variants place other ranks ≡ later =
          ap (λ d. decided d later) (is ∙ ap (λ b. cond b None (Some (nat_lt x.0 y.0))) same) in (
            (λ less. subst (λ l. IsLess l ys) (sym x.4) (subst (λ l. IsLess (x.0 ∷ x.1) l) (sym y.4) (inr (equal, rest.0 (sym at ∙ less))))),
            (λ not_less. elim (rest.1 (sym at ∙ not_less)) [
              | inl more ↦ inl (subst (λ l. IsLess ys l) (sym x.4) (subst (λ l. IsLess l (x.0 ∷ x.1)) (sym y.4) (inr (sym equal, more))))
              | inr tie ↦ inr (y.4 ∙ ap (λ l. y.0 ∷ l) tie ∙ ap (λ r. r ∷ x.1) (sym equal) ∙ sym x.4)
            ]),
          )
      | inr differ ↦
          let at : is_less_from (suc columns) variants place other ranks ≡ nat_lt x.0 y.0 =
          ap (λ d. decided d later) (is ∙ ap (λ b. cond b None (Some (nat_lt x.0 y.0))) differ) in (
            (λ less. subst (λ l. IsLess l ys) (sym x.4) (subst (λ l. IsLess (x.0 ∷ x.1) l) (sym y.4) (inl (ltb-true x.0 y.0 (sym at ∙ less))))),
            (λ not_less.
                let over : y.0 < x.0 = above x.0 y.0 differ (sym at ∙ not_less) in
                inl (subst (λ l. IsLess ys l) (sym x.4) (subst (λ l. IsLess l (x.0 ∷ x.1)) (sym y.4) (inl over)))),
          )
    ]

-- A walk over the columns: what is left of a row after some.

left_is : (columns i : ℕ) → i < columns → columns - i ≡ suc (columns - (i + 1))
left_is columns i inside = omega arith

module _ (columns i variants place : ℕ) (rest : List (Option ℕ)) (inside : i < columns) where
  abbrev left : ℕ
  left = columns - (i + 1)

  -- a key that doesn't match
  pub row_none : rank_at rest place ≡ None → is_some (row (columns - i) variants place rest) ≡ false
  row_none none =
      ap (λ n. is_some (row n variants place rest)) (left_is columns i inside)
      ∙ ap (λ r. is_some (with_rank r (row left variants place (drop variants rest)))) none

  -- one that does
  pub row_some : (rank : ℕ) → rank_at rest place ≡ Some rank → is_some (row (columns - i) variants place rest) ≡ is_some (row left variants place (drop variants rest))
  row_some rank is =
      ap (λ n. is_some (row n variants place rest)) (left_is columns i inside)
      ∙ ap (λ r. is_some (with_rank r (row left variants place (drop variants rest)))) is
      ∙ some_with rank (row left variants place (drop variants rest))

  -- two keys
  pub less_at : (other : ℕ) (found : Option Bool) → difference (rank_at rest place) (rank_at rest other) ≡ found →
      is_less_from (columns - i) variants place other rest ≡ decided found (is_less_from left variants place other (drop variants rest))
  less_at other found is =
      ap (λ n. is_less_from n variants place other rest) (left_is columns i inside)
      ∙ ap (λ d. decided d (is_less_from left variants place other (drop variants rest))) is

none_left : (columns i : ℕ) → columns ≤ i → columns - i ≡ 0
none_left columns i past = omega arith

pub row_end : (columns i variants place : ℕ) (rest : List (Option ℕ)) → columns ≤ i → is_some (row (columns - i) variants place rest) ≡ true
row_end columns i variants place rest past = ap (λ n. is_some (row n variants place rest)) (none_left columns i past)

pub less_end : (columns i variants place other : ℕ) (rest : List (Option ℕ)) → columns ≤ i → is_less_from (columns - i) variants place other rest ≡ false
less_end columns i variants place other rest past = ap (λ n. is_less_from n variants place other rest) (none_left columns i past)

-- which ranks are there
pub has_rank : (rank : Option ℕ) → is_some rank ≡ true → (r : ℕ) × (rank ≡ Some r)
has_rank None is = cc
has_rank (Some r) is = (r, refl)

-- The best so far.

module _ (rows : ℕ → Option (List ℕ)) where
  pub best_none : IsBest rows 0 None
  best_none place below = absurd (omega arith)

  -- one place more, which doesn't match
  pub best_skipped : (count : ℕ) (best : Option ℕ) → rows count ≡ None → IsBest rows count best → IsBest rows (count + 1) best
  best_skipped count None none before = λ place below. elim (cases_lt place count) [
    | inl less ↦ before place less
    | inr at ↦ let same : place ≡ count = omega arith in ap rows same ∙ none
  ]
  best_skipped count (Some best) none before = record {
    ranks = before.ranks;
    within = (let within = before.within in omega arith);
    matches = before.matches;
    least = λ other others below apart is. elim (cases_lt other count) [
      | inl less ↦ before.least other others less apart is
      | inr at ↦
          let same : other ≡ count = omega arith in
          let clash : None ≡ Some others = sym none ∙ ap rows (sym same) ∙ is in
          cc
    ];
  }

  -- one that is no better
  pub best_kept : (count best : ℕ) (ranks : List ℕ) → rows count ≡ Some ranks →
      ((best_ranks : List ℕ) → rows best ≡ Some best_ranks → IsLess best_ranks ranks ⊎ (best_ranks ≡ ranks)) → IsBest rows count (Some best) → IsBest rows (count + 1) (Some best)
  best_kept count best ranks here compared before = record {
    ranks = before.ranks;
    within = (let within = before.within in omega arith);
    matches = before.matches;
    least = λ other others below apart is. elim (cases_lt other count) [
      | inl less ↦ before.least other others less apart is
      | inr at ↦
          let same : other ≡ count = omega arith in
          let found : Some others ≡ Some ranks = sym is ∙ ap rows same ∙ here in
          let equal : others ≡ ranks = cc in
          let within = before.within in
          elim (compared before.ranks before.matches) [
            | inl less ↦ inl (subst (IsLess before.ranks) (sym equal) less)
            | inr tie ↦ inr (tie ∙ sym equal, omega arith)
          ]
    ];
  }

  -- the first that matches
  pub best_first : (count : ℕ) (ranks : List ℕ) → rows count ≡ Some ranks → IsBest rows count None → IsBest rows (count + 1) (Some count)
  best_first count ranks here before = record {
    ranks = ranks;
    within = omega arith;
    matches = here;
    least = λ other others below apart is. elim (cases_lt other count) [
      | inl less ↦ let clash : None ≡ Some others = sym (before other less) ∙ is in cc
      | inr at ↦ let same : other ≡ count = omega arith in absurd (apart same)
    ];
  }

  -- one that is better
  pub best_changed : (count best : ℕ) (ranks : List ℕ) → rows count ≡ Some ranks →
      ((best_ranks : List ℕ) → rows best ≡ Some best_ranks → IsLess ranks best_ranks) → IsBest rows count (Some best) → IsBest rows (count + 1) (Some count)
  best_changed count best ranks here compared before = record {
    ranks = ranks;
    within = omega arith;
    matches = here;
    least = λ other others below apart is.
        let less : IsLess ranks before.ranks = compared before.ranks before.matches in
        elim (cases_lt other count) [
          | inl below_too ↦ elim (cases_Bool (nat_eq other best)) [
            | inl same ↦
                let equal : other ≡ best = eqb-true other best same in
                let found : Some others ≡ Some before.ranks = sym is ∙ ap rows equal ∙ before.matches in
                let same_ranks : others ≡ before.ranks = cc in
                inl (subst (IsLess ranks) (sym same_ranks) less)
            | inr differ ↦ elim (before.least other others below_too (differs other best differ) is) [
              | inl more ↦ inl (less_both ranks before.ranks others less more)
              | inr tie ↦ inl (subst (IsLess ranks) tie.0 less)
            ]
          ]
          | inr at ↦ let same : other ≡ count = omega arith in absurd (apart same)
        ];
  }

some_row : (found : Option (List ℕ)) → is_some found ≡ true → (xs : List ℕ) × (found ≡ Some xs)
some_row None is = cc
some_row (Some xs) is = (xs, refl)

no_row : (found : Option (List ℕ)) → is_some found ≡ false → found ≡ None
no_row None is = refl
no_row (Some xs) is = cc

module _ (ranks : Ranks) (place : ℕ) where
  -- two variants that match
  two : (best : ℕ) (xs ys : List ℕ) → row_of ranks place ≡ Some xs → row_of ranks best ≡ Some ys →
      (is_less ranks place best ≡ true → IsLess xs ys) × (is_less ranks place best ≡ false → IsLess ys xs ⊎ (ys ≡ xs))
  two best xs ys x_is y_is = compares ranks.columns ranks.variants place best ranks.ranks xs ys x_is y_is

  pub better_step : (best : Option ℕ) → is_some (row_of ranks place) ≡ true → is_better ranks place best ≡ true → IsBest (row_of ranks) place best →
      IsBest (row_of ranks) (place + 1) (Some place)
  better_step None matches better before =
      let here = some_row (row_of ranks place) matches in
      best_first (row_of ranks) place here.0 here.1 before
  better_step (Some best) matches better before =
      let here = some_row (row_of ranks place) matches in
      best_changed (row_of ranks) place best here.0 here.1 (λ best_ranks has. (two best here.0 best_ranks here.1 has).0 better) before

  pub kept_step : (best : Option ℕ) → is_some (row_of ranks place) ≡ true → is_better ranks place best ≡ false → IsBest (row_of ranks) place best →
      IsBest (row_of ranks) (place + 1) best
  kept_step None matches better before = let clash : true ≡ false = better in cc
  kept_step (Some best) matches better before =
      let here = some_row (row_of ranks place) matches in
      best_kept (row_of ranks) place best here.0 here.1 (λ best_ranks has. (two best here.0 best_ranks here.1 has).1 better) before

  pub skipped_step : (best : Option ℕ) → is_some (row_of ranks place) ≡ false → IsBest (row_of ranks) place best → IsBest (row_of ranks) (place + 1) best
  skipped_step best matches before = best_skipped (row_of ranks) place best (no_row (row_of ranks place) matches) before
