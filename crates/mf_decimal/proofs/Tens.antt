-- Powers of ten.
use Rattle.std.proofs.Common.{◌≡◌, ℕ, zero, suc, ◌+◌, ◌*◌, ◌^◌, ◌<◌, ◌≤◌, Bool, true, false, List, [], ◌∷◌, length, get_or, refl, sym, ap, ◌∙◌, arith}
use Rattle.std.specs.Prelude.{◌==◌, ◌&&◌}
use Rattle.std.proofs.lemmas.Bool.{false≢true}
use Rattle.std.proofs.lemmas.Bool.Decides.{nat_tests}
use Rattle.std.proofs.Math.Nat.{pow-le-pow_right, one-le-pow, pow-suc}
use Rattle.std.proofs.lemmas.Nat.{pow-add}

pub ten_pos : (k : ℕ) → 0 < 10 ^ k
ten_pos k = omega (arith, one-le-pow k 10 (omega arith))

pub ten_le : (i j : ℕ) → i ≤ j → 10 ^ i ≤ 10 ^ j
ten_le i j h = pow-le-pow_right {n = 10} (omega arith) h

pub ten_add : (i j : ℕ) → 10 ^ (i + j) ≡ 10 ^ i * 10 ^ j
ten_add i j = pow-add 10 i j

pub ten_more : (k : ℕ) → 10 ^ (k + 1) ≡ 10 ^ k * 10
ten_more k = ten_add k 1

-- a sum of exponents by its value
pub ten_sum : (i j k : ℕ) → i + j ≡ k → 10 ^ i * 10 ^ j ≡ 10 ^ k
ten_sum i j k e = sym (ten_add i j) ∙ ap (λ (n : ℕ). 10 ^ n) e

pub power_product : (i j p q : ℕ) → p ≡ 10 ^ i → q ≡ 10 ^ j → 10 ^ (i + j) ≡ p * q
power_product i j p q e f = rw (e, f) (ten_add i j)

-- a table of powers of ten, from p on
abbrev are_powers : ℕ → List ℕ → Bool
are_powers p [] = true
are_powers p (x ∷ xs) = (x == p) && are_powers (p * 10) xs

both_true : (a b : Bool) → (a && b) ≡ true → (a ≡ true) × (b ≡ true)
both_true true b h = (refl, h)
both_true false b h = absurd (false≢true h)

pub power_at : (xs : List ℕ) (p k : ℕ) → are_powers p xs ≡ true → k < length xs → get_or xs k 0 ≡ p * 10 ^ k
power_at [] p k h within = absurd (omega arith)
power_at (x ∷ xs) p zero h within = let first = (both_true (x == p) (are_powers (p * 10) xs) h).0 in grind (arith, nat_tests)
power_at (x ∷ xs) p (suc k) h within =
    let rest = power_at xs (p * 10) k (both_true (x == p) (are_powers (p * 10) xs) h).1 (omega arith) in
    rest ∙ rw (pow-suc 10 k) (omega arith)
