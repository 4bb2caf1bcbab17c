-- Lists in the order of a key.
use Rattle.std.proofs.Common.{◌≡◌, ◌∙◌, ℕ, zero, suc, ◌<◌, ◌≤◌, Bool, true, false, ltb, List, [], ◌∷◌, ◌++◌, ◌⊎◌, ⊎_elim, refl, ap, sym, subst, arith, append_assoc}
use Rattle.std.specs.Prelude.{◌==◌}
use Rattle.std.specs.List.{filter, AllByRecursion}
use Rattle.std.proofs.lemmas.Bool.{cases_eq, cases_lt, eq-eqb, eqb-true, le-ltb, lt-ltb, ne_eqb}
use Rattle.std.proofs.lemmas.List.{append-nil}
use Rattle.std.proofs.lemmas.List.Elements.{filter-append}

filter-swap : {X : Type 0} (p q : X → Bool) (xs : List X) → filter p (filter q xs) ≡ filter q (filter p xs)
filter-swap p q [] = refl
filter-swap p q (x ∷ xs) = by (p x) refl (q x) refl (filter-swap p q xs)
  where
    by : (a : Bool) → p x ≡ a → (b : Bool) → q x ≡ b → filter p (filter q xs) ≡ filter q (filter p xs)
        → filter p (filter q (x ∷ xs)) ≡ filter q (filter p (x ∷ xs))
    by true left true right further = simp (left, right) (ap (λ l. x ∷ l) further)
    by true left false right further = simp (left, right) further
    by false left true right further = simp (left, right) further
    by false left false right further = simp (left, right) further

module _ {X : Type 0} (key : X → ℕ) where
  -- no key is below the one before it, and none is below a bound
  abbrev pub Ascends : ℕ → List X → Type 0
  Ascends low [] = Unit {0}
  Ascends low (x ∷ xs) = (low ≤ key x) × Ascends (key x) xs

  -- what has a key
  abbrev pub at_key : ℕ → List X → List X
  at_key k xs = filter (λ x. key x == k) xs

  -- a list, key by key, below a number
  abbrev pub by_key : List X → ℕ → List X
  by_key xs zero = []
  by_key xs (suc k) = by_key xs k ++ at_key k xs

  pub lower : (xs : List X) (low high : ℕ) → low ≤ high → Ascends high xs → Ascends low xs
  lower [] low high less up = tt
  lower (x ∷ xs) low high less up = (omega (arith, less, up.0), up.1)

  pub ascends-filter : (p : X → Bool) (xs : List X) (low : ℕ) → Ascends low xs → Ascends low (filter p xs)
  ascends-filter p [] low up = tt
  ascends-filter p (x ∷ xs) low up = by (p x) refl (ascends-filter p xs (key x) up.1)
    where
      by : (b : Bool) → p x ≡ b → Ascends (key x) (filter p xs) → Ascends low (filter p (x ∷ xs))
      by true is further = rw is (up.0, further)
      by false is further = rw is (lower (filter p xs) low (key x) up.0 further)

  -- key by key a list ascends
  key_ascends : (k : ℕ) (rest : List X) → Ascends (suc k) rest → (xs : List X) → Ascends k (at_key k xs ++ rest)
  key_ascends k rest up [] = lower rest k (suc k) (omega arith) up
  key_ascends k rest up (x ∷ xs) = by (key x == k) refl (key_ascends k rest up xs)
    where
      by : (b : Bool) → (key x == k) ≡ b → Ascends k (at_key k xs ++ rest) → Ascends k (at_key k (x ∷ xs) ++ rest)
      by true is further =
          let own : key x ≡ k = eqb-true (key x) k is in rw is (omega (arith, own), subst (λ low. Ascends low (at_key k xs ++ rest)) (sym own) further)
      by false is further = rw is further

  keys_ascend : (xs : List X) (n : ℕ) (rest : List X) → Ascends n rest → Ascends 0 (by_key xs n ++ rest)
  keys_ascend xs zero rest up = up
  keys_ascend xs (suc k) rest up = subst (λ l. Ascends 0 l) (sym (append_assoc (by_key xs k) (at_key k xs) rest))
      (keys_ascend xs k (at_key k xs ++ rest) (key_ascends k rest up xs))

  pub by_key_ascends : (xs : List X) (n : ℕ) → Ascends 0 (by_key xs n)
  by_key_ascends xs n = subst (λ l. Ascends 0 l) (append-nil (by_key xs n)) (keys_ascend xs n [] tt)

  -- what is kept of a list key by key is what is kept of it
  pub filter-by_key : (p : X → Bool) (xs : List X) (n : ℕ) → filter p (by_key xs n) ≡ by_key (filter p xs) n
  filter-by_key p xs zero = refl
  filter-by_key p xs (suc k) =
      filter-append p (by_key xs k) (at_key k xs) ∙ ap (λ l. l ++ filter p (at_key k xs)) (filter-by_key p xs k)
      ∙ ap (λ l. by_key (filter p xs) k ++ l) (filter-swap p (λ x. key x == k) xs)

  -- what has a key below a number
  abbrev below : ℕ → List X → List X
  below n xs = filter (λ x. ltb (key x) n) xs

  none_below : (n : ℕ) (xs : List X) (low : ℕ) → Ascends low xs → n ≤ low → below n xs ≡ []
  none_below n [] low up less = refl
  none_below n (x ∷ xs) low up less =
      rw (le-ltb (key x) n (omega (arith, less, up.0))) (none_below n xs (key x) up.1 (omega (arith, less, up.0)))

  first_key : (n : ℕ) (xs : List X) (low : ℕ) → Ascends low xs → n ≤ low → below (suc n) xs ≡ at_key n xs
  first_key n [] low up less = refl
  first_key n (x ∷ xs) low up less = by (first_key n xs (key x) up.1 (omega (arith, less, up.0))) (cases_eq (key x) n)
    where
      by : below (suc n) xs ≡ at_key n xs → (key x ≡ n) ⊎ (key x ≡ n → ⊥) → below (suc n) (x ∷ xs) ≡ at_key n (x ∷ xs)
      by further = ⊎_elim
          (λ own. simp (lt-ltb (key x) (suc n) (omega (arith, own)), eq-eqb (key x) n own) (ap (λ l. x ∷ l) further))
          (λ other. simp (le-ltb (key x) (suc n) (omega (arith, less, up.0, other)), ne_eqb (key x) n other) further)

  one_more : (n : ℕ) (xs : List X) (low : ℕ) → Ascends low xs → below (suc n) xs ≡ below n xs ++ at_key n xs
  one_more n [] low up = refl
  one_more n (x ∷ xs) low up = by (one_more n xs (key x) up.1) (cases_lt (key x) n)
    where
      by : below (suc n) xs ≡ below n xs ++ at_key n xs → (key x < n) ⊎ (n ≤ key x) → below (suc n) (x ∷ xs) ≡ below n (x ∷ xs) ++ at_key n (x ∷ xs)
      by further = ⊎_elim
          (λ less. simp (lt-ltb (key x) (suc n) (omega (arith, less)), lt-ltb (key x) n less, ne_eqb (key x) n (λ same. omega (arith, same, less)))
          (ap (λ l. x ∷ l) further))
          (λ most. first_key n (x ∷ xs) n (most, up.1) (omega arith) ∙ sym (ap (λ l. l ++ at_key n (x ∷ xs)) (none_below n (x ∷ xs) n (most, up.1) (omega arith))))

  below_is : (n : ℕ) (xs : List X) (low : ℕ) → Ascends low xs → below n xs ≡ by_key xs n
  below_is zero xs low up = none_below zero xs low up (omega arith)
  below_is (suc k) xs low up = one_more k xs low up ∙ ap (λ l. l ++ at_key k xs) (below_is k xs low up)

  all_below : (n : ℕ) (xs : List X) → AllByRecursion (λ x. key x < n) xs → below n xs ≡ xs
  all_below n [] each = refl
  all_below n (x ∷ xs) each = rw (lt-ltb (key x) n each.0) (ap (λ l. x ∷ l) (all_below n xs each.1))

  -- an ascending list is itself, key by key
  pub ascends_is : (n : ℕ) (xs : List X) (low : ℕ) → Ascends low xs → AllByRecursion (λ x. key x < n) xs → by_key xs n ≡ xs
  ascends_is n xs low up each = sym (below_is n xs low up) ∙ all_below n xs each
