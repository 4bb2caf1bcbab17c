-- One value of a function changes.
use Rattle.std.proofs.Common.{◌≡◌, ◌∙◌, ℕ, Bool, true, false, Option, Some, None, ◌⊎◌, inl, inr, ⊎_elim, refl, ap, sym}
use Rattle.std.specs.Prelude.{◌==◌, ◌&&◌, ◌||◌, not, if◌then◌else◌}
use Rattle.std.proofs.Common.{arith}
use Rattle.std.proofs.lemmas.Bool.Decides.{nat_tests}
use Rattle.std.proofs.lemmas.Bool.{cases_eq, eq-eqb, ne_eqb, true≢false}
use Rattle.mf_core.specs.Worlds.{is_at}

module _ {X : Type 0} where
  pub here : (f : ℕ → X) (n : ℕ) (x : X) (m : ℕ) → m ≡ n → (if m == n then x else f m) ≡ x
  here f n x m same = ap (λ b. if b then x else f m) (eq-eqb m n same)

  pub there : (f : ℕ → X) (n : ℕ) (x : X) (m : ℕ) → (m ≡ n → ⊥) → (if m == n then x else f m) ≡ f m
  there f n x m other = ap (λ b. if b then x else f m) (ne_eqb m n other)

  -- a part of the value that stays
  pub part_stays : {Y : Type 0} (part : X → Y) (f : ℕ → X) (n : ℕ) (x : X) → part x ≡ part (f n)
      → (m : ℕ) → part (if m == n then x else f m) ≡ part (f m)
  part_stays part f n x same m = ⊎_elim
      (λ (is : m ≡ n). ap part (here f n x m is) ∙ same ∙ ap (λ k. part (f k)) (sym is))
      (λ (other : m ≡ n → ⊥). ap part (there f n x m other)) (cases_eq m n)

  pub both_here : (f : ℕ → ℕ → X) (e i : ℕ) (x : X) (d j : ℕ) → d ≡ e → j ≡ i → (if (d == e) && (j == i) then x else f d j) ≡ x
  both_here f e i x d j same_d same_j =
      (λ k. if eq-eqb d e same_d k && eq-eqb j i same_j k then x else f d j)

  pub both_cases : (f : ℕ → ℕ → X) (e i : ℕ) (x : X) (d j : ℕ)
      → ((d ≡ e) × (j ≡ i)) ⊎ ((if (d == e) && (j == i) then x else f d j) ≡ f d j)
  both_cases f e i x d j = ⊎_elim
      (λ (same_d : d ≡ e). ⊎_elim (λ (same_j : j ≡ i). inl (same_d, same_j))
      (λ (other : j ≡ i → ⊥). inr (ap (λ b. if b then x else f d j) (no_right (d == e) (j == i) (ne_eqb j i other)))) (cases_eq j i))
      (λ (other : d ≡ e → ⊥). inr (ap (λ b. if b && (j == i) then x else f d j) (ne_eqb d e other)))
      (cases_eq d e)
    where
      no_right : (a b : Bool) → b ≡ false → (a && b) ≡ false
      no_right true b is = is
      no_right false b is = refl

pub at_is : (e : ℕ) (o : Option ℕ) → is_at e o ≡ true → o ≡ Some e
at_is e None test = absurd (true≢false (sym test))
at_is e (Some k) test = grind (arith, nat_tests)

pub is_at_some : (e : ℕ) (o : Option ℕ) → o ≡ Some e → is_at e o ≡ true
is_at_some e o same = ap (is_at e) same ∙ eq-eqb e e refl

pub or_right : (a b : Bool) → b ≡ true → (a || b) ≡ true
or_right true b is = refl
or_right false b is = is

pub or_left : (a b : Bool) → a ≡ true → (a || b) ≡ true
or_left true b is = refl
or_left false b is = absurd (true≢false (sym is))

pub or_cases : (a b : Bool) → (a || b) ≡ true → (a ≡ true) ⊎ (b ≡ true)
or_cases true b is = inl refl
or_cases false b is = inr is

-- neither is so
pub neither : (a b : Bool) → (a || b) ≡ false → (a ≡ false) × (b ≡ false)
neither true b is = absurd (true≢false is)
neither false b is = (refl, is)

pub not_true : (a : Bool) → not a ≡ false → a ≡ true
not_true true is = refl
not_true false is = absurd (true≢false is)

pub by_bool : (b : Bool) → (b ≡ true) ⊎ (b ≡ false)
by_bool true = inl refl
by_bool false = inr refl
