-- Sums over views, counts in lists, and beginnings.
use Rattle.std.proofs.Common.{◌≡◌, ◌≢◌, ℕ, zero, suc, ◌+◌, ◌<◌, ◌≤◌, eqb, List, [], ◌∷◌, ◌++◌, map, length, set, Bool, true, false, sym, refl, ap, ◌∙◌, subst, ⊎_elim, ◌⊎◌, inl, inr, arith, append_assoc, eq-eqb, Some, None}
use mathlib.Core.Option.{some, some-ne-none, some-injective}
use lib.ListN.{get_elem?}
use Rattle.std.specs.Prelude.{nat_lt}
use Rattle.std.proofs.lemmas.Bool.Decides.{nat_tests}
use Rattle.atomic_table.proofs.Lists.{at_set}
use Rattle.mf_turn.specs.Sums.{one_if, times, once_below, total, Each, StartsWith}

pub one_if-same : (n : ℕ) → one_if (eqb n n) ≡ 1
one_if-same n = ap one_if (eq-eqb n n refl)

pub one_if-le : (b : Bool) → one_if b ≤ 1
one_if-le true = omega arith
one_if-le false = omega arith

pub times-append : (n : ℕ) (xs ys : List ℕ) → times n (xs ++ ys) ≡ times n xs + times n ys
times-append n [] ys = omega arith
times-append n (x ∷ xs) ys = let h = times-append n xs ys in omega arith

pub once_below-suc : (n k : ℕ) → once_below n (k + 1) ≡ once_below n k + one_if (eqb k n)
once_below-suc n k = grind (arith, nat_tests)

pub once_below-le : (n k : ℕ) → once_below n k ≤ 1
once_below-le n k = one_if-le (nat_lt n k)

pub below_once : (n k : ℕ) → 0 < once_below n k → n < k
below_once n k h = grind (arith, nat_tests)

module _ {X : Type 0} where
  pub none_some : (x : X) → None ≢ Some x
  none_some x e = cc

  pub append_nil : (xs : List X) → xs ++ [] ≡ xs
  append_nil [] = refl
  append_nil (x ∷ xs) = ap (λ ys. x ∷ ys) (append_nil xs)

  -- the sum after one changes
  pub total-set : (f : X → ℕ) (xs : List X) (j : ℕ) (x y : X) → get_elem? xs j ≡ some x → total f (set xs j y) + f x ≡ total f xs + f y
  total-set f [] j x y at = absurd (some-ne-none x (sym at))
  total-set f (z ∷ zs) zero x y at = let same : f z ≡ f x = ap f (some-injective z x at) in omega arith
  total-set f (z ∷ zs) (suc j) x y at = let h = total-set f zs j x y at in omega arith

  pub total-append : (f : X → ℕ) (xs ys : List X) → total f (xs ++ ys) ≡ total f xs + total f ys
  total-append f [] ys = omega arith
  total-append f (x ∷ xs) ys = let h = total-append f xs ys in omega arith

  -- one of the list is no more than the sum
  pub total-le : (f : X → ℕ) (xs : List X) (j : ℕ) (x : X) → get_elem? xs j ≡ some x → f x ≤ total f xs
  total-le f [] j x at = absurd (some-ne-none x (sym at))
  total-le f (z ∷ zs) zero x at = let same : f z ≡ f x = ap f (some-injective z x at) in omega arith
  total-le f (z ∷ zs) (suc j) x at = let h = total-le f zs j x at in omega arith

  -- nor are two
  pub total-two : (f : X → ℕ) (xs : List X) (i j : ℕ) (x y : X) → i ≢ j → get_elem? xs i ≡ some x → get_elem? xs j ≡ some y → f x + f y ≤ total f xs
  total-two f [] i j x y apart a b = absurd (some-ne-none x (sym a))
  total-two f (z ∷ zs) zero zero x y apart a b = absurd (apart refl)
  total-two f (z ∷ zs) zero (suc j) x y apart a b = let same : f z ≡ f x = ap f (some-injective z x a) in let h = total-le f zs j y b in omega arith
  total-two f (z ∷ zs) (suc i) zero x y apart a b = let same : f z ≡ f y = ap f (some-injective z y b) in let h = total-le f zs i x a in omega arith
  total-two f (z ∷ zs) (suc i) (suc j) x y apart a b = let h = total-two f zs i j x y (λ e. apart (ap suc e)) a b in omega arith

  pub total-none : (f : X → ℕ) (xs : List X) → ((j : ℕ) (x : X) → get_elem? xs j ≡ some x → f x ≡ 0) → total f xs ≡ 0
  total-none f [] none_has = refl
  total-none f (z ∷ zs) none_has = let a = none_has 0 z refl in let b = total-none f zs (λ j x e. none_has (suc j) x e) in omega arith

  -- where the others have nothing
  pub total-only : (f : X → ℕ) (xs : List X) (i : ℕ) (x : X) → get_elem? xs i ≡ some x → ((j : ℕ) (y : X) → j ≢ i → get_elem? xs j ≡ some y → f y ≡ 0) → total f xs ≡ f x
  total-only f [] i x at others = absurd (some-ne-none x (sym at))
  total-only f (z ∷ zs) zero x at others = let a : f z ≡ f x = ap f (some-injective z x at) in let b = total-none f zs (λ j y e. others (suc j) y (λ h. omega arith) e) in omega arith
  total-only f (z ∷ zs) (suc i) x at others = let a = others 0 z (λ h. omega arith) refl in let b = total-only f zs i x at (λ j y n e. others (suc j) y (λ h. n (omega arith)) e) in omega arith

  -- what holds of each, where one changes, and where one comes
  pub each_set : (P : ℕ → X → Type 0) (xs : List X) (i : ℕ) (y : X) → P i y → ((j : ℕ) (x : X) → j ≢ i → get_elem? xs j ≡ some x → P j x) → (j : ℕ) (x : X) → get_elem? (set xs i y) j ≡ some x → P j x
  each_set P xs i y mine others j x e = ⊎_elim
      (λ (t : (j ≡ i) × (y ≡ x)). subst (λ (z : ℕ × X). P z.0 z.1) (λ k. (sym t.0 k, t.1 k)) mine)
      (λ (t : (j ≢ i) × (get_elem? xs j ≡ some x)). others j x t.0 t.1)
      (at_set xs i j y x e)

  pub at_end : (xs : List X) (y : X) (j : ℕ) (x : X) → get_elem? (xs ++ y ∷ []) j ≡ some x → (get_elem? xs j ≡ some x) ⊎ ((j ≡ length xs) × (y ≡ x))
  at_end [] y zero x e = inr (refl, some-injective y x e)
  at_end [] y (suc j) x e = absurd (some-ne-none x (sym e))
  at_end (z ∷ zs) y zero x e = inl e
  at_end (z ∷ zs) y (suc j) x e = ⊎_elim (λ a. inl a) (λ (b : (j ≡ length zs) × (y ≡ x)). inr (ap suc b.0, b.1)) (at_end zs y j x e)

  pub starts_itself : (xs : List X) → StartsWith xs xs
  starts_itself xs = ([], append_nil xs)

  pub starts_longer : (xs ys : List X) → StartsWith (xs ++ ys) xs
  starts_longer xs ys = (ys, refl)

  pub starts_through : (xs ys zs : List X) → StartsWith xs ys → StartsWith ys zs → StartsWith xs zs
  starts_through xs ys zs a b = (b.0 ++ a.0, sym (append_assoc zs b.0 a.0) ∙ ap (λ l. l ++ a.0) b.1 ∙ a.1)

  pub Each-map : (P Q : X → Type 0) (xs : List X) → ((x : X) → P x → Q x) → Each P xs → Each Q xs
  Each-map P Q [] go all = tt
  Each-map P Q (x ∷ xs) go all = (go x all.0, Each-map P Q xs go all.1)

  pub Each-append : (P : X → Type 0) (xs ys : List X) → Each P xs → Each P ys → Each P (xs ++ ys)
  Each-append P [] ys a b = b
  Each-append P (x ∷ xs) ys a b = (a.0, Each-append P xs ys a.1 b)

  -- each keeps what it has, whose number is among theirs
  pub Each-within : (key : X → ℕ) (P Q : X → Type 0) (xs : List X) → ((x : X) → 0 < times (key x) (map key xs) → P x → Q x) → Each P xs → Each Q xs
  Each-within key P Q [] go all = tt
  Each-within key P Q (x ∷ xs) go all = let here = one_if-same (key x) in
      (go x (omega arith) all.0, Each-within key P Q xs (λ y h. go y (let more : 0 < times (key y) (map key xs) = h in omega arith)) all.1)
