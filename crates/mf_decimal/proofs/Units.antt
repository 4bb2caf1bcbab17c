-- Powers of ten at whole places, and the place of a first digit.
use Rattle.std.proofs.Common.{◌≡◌, ℕ, zero, suc, ◌+◌, ◌-◌, ◌*◌, ◌^◌, ◌<◌, ◌≤◌, ℤ, pos, negsuc, ◌+ℤ◌, ◌-ℤ◌, refl, sym, ap, ◌∙◌, arith}
use Rattle.std.proofs.Math.Nat.{mul-le-mul_right, mul-lt-mul_of_pos_right, le_of_mul-le-mul_right, eq_of_mul-eq-mul_right, lt_of_mul-lt-mul_right, mul-pos}
use Rattle.std.proofs.lemmas.Int.{ints}
use Rattle.mf_decimal.specs.Amount.{Amount, ten_to, shifted, IsSame}
use Rattle.mf_decimal.specs.Rounding.{IsFirstPlace, or_zero}
use Rattle.mf_decimal.specs.Dropping.{IsDigitCount}
use Rattle.mf_decimal.proofs.Tens.{ten_pos, ten_sum, ten_more}

pub some_power : (z : ℤ) → 0 < (ten_to z).under
some_power (pos k) = omega arith
some_power (negsuc k) = ten_pos (k + 1)

pub some_tenth : (z : ℤ) → 0 < (ten_to z).over
some_tenth (pos k) = ten_pos k
some_tenth (negsuc k) = omega arith

-- ten to a difference
pub power_of : (z : ℤ) (a b : ℕ) → z ≡ pos a -ℤ pos b → (ten_to z).over * 10 ^ b ≡ 10 ^ a * (ten_to z).under
power_of (pos k) a b e = let sum : k + b ≡ a = omega (arith, ints) in omega (arith, ten_sum k b a sum)
power_of (negsuc k) a b e = let sum : a + (k + 1) ≡ b = omega (arith, ints) in omega (arith, ten_sum a (k + 1) b sum)

-- a difference, or 0 where it is below zero
pub or_zero_of : (z : ℤ) (a b : ℕ) → z ≡ pos a -ℤ pos b → or_zero z ≡ a - b
or_zero_of (pos k) a b e = omega (arith, ints)
or_zero_of (negsuc k) a b e = omega (arith, ints)

-- the first digit's place of a number of m digits over ten to the s
place_low : (o u p v c : ℕ) → o * (p * 10) ≡ v * 10 * u → v ≤ c → o * p ≤ c * u
place_low o u p v c e le = omega (arith, mul-le-mul_right {m = v} {n = c} u le)

pub first_place : (c s m : ℕ) → IsDigitCount c m → (c ≡ 0 → s ≡ 0) → IsFirstPlace (shifted c s) (pos m -ℤ pos (s + 1))
first_place c s m h none =
    let z = pos m -ℤ pos (s + 1) in
    let some_digit = h.some in
    let front : 10 ^ m ≡ 10 ^ (m - 1) * 10 = sym (ten_sum (m - 1) 1 m (omega arith)) in
    let power : (ten_to z).over * (10 ^ s * 10) ≡ 10 ^ (m - 1) * 10 * (ten_to z).under =
    ap (λ (q : ℕ). (ten_to z).over * q) (sym (ten_more s)) ∙ power_of z m (s + 1) refl ∙ ap (λ (w : ℕ). w * (ten_to z).under) front in
    let next : z +ℤ pos 1 ≡ pos m -ℤ pos s = omega (arith, ints) in
    record {
      at_least = λ some. place_low (ten_to z).over (ten_to z).under (10 ^ s) (10 ^ (m - 1)) c power (h.at_least some);
      below = λ some. rw (power_of (z +ℤ pos 1) m s next) (mul-lt-mul_of_pos_right {m = c} {n = 10 ^ m} {k = (ten_to (z +ℤ pos 1)).under} h.below (some_power (z +ℤ pos 1)));
      none = λ nothing. place_zero m s (h.zero nothing) (none nothing);
    }
  where
    place_zero : (m s : ℕ) → m ≡ 1 → s ≡ 0 → pos m -ℤ pos (s + 1) ≡ pos 0
    place_zero m s one whole = omega (arith, ints)

-- one amount has one place
at_most_same : (a b c d p q : ℕ) → 0 < b → a * d ≡ c * b → p * b ≤ a * q → p * d ≤ c * q
at_most_same a b c d p q some e le =
    le_of_mul-le-mul_right {m = p * d} {n = c * q} {k = b} (omega (arith, mul-le-mul_right {m = p * b} {n = a * q} d le, ap (λ (x : ℕ). x * q) e)) some

below_same : (a b c d p q : ℕ) → 0 < b → 0 < d → a * d ≡ c * b → a * q < p * b → c * q < p * d
below_same a b c d p q some other e less =
    lt_of_mul-lt-mul_right b {m = c * q} {n = p * d} (omega (arith, mul-lt-mul_of_pos_right {m = a * q} {n = p * b} {k = d} less other, ap (λ (x : ℕ). x * q) e))

zero_same : (a b c d : ℕ) → 0 < b → 0 < d → a * d ≡ c * b → c ≡ 0 → a ≡ 0
zero_same a b c d some other e none =
    eq_of_mul-eq-mul_right d other a 0 (e ∙ rw none (omega arith))

some_same : (a b c d : ℕ) → 0 < b → 0 < d → a * d ≡ c * b → 0 < c → 0 < a
some_same zero b c d some other e left = absurd (omega (arith, mul-pos {m = c} {n = b} left some))
some_same (suc a) b c d some other e left = omega arith

pub place_same : (x y : Amount) (p : ℤ) → 0 < x.under → 0 < y.under → IsSame x y → IsFirstPlace x p → IsFirstPlace y p
place_same x y p some other same h = record {
  at_least = λ left. at_most_same x.over x.under y.over y.under (ten_to p).over (ten_to p).under some same (h.at_least (some_same x.over x.under y.over y.under some other same left));
  below = λ left. below_same x.over x.under y.over y.under (ten_to (p +ℤ pos 1)).over (ten_to (p +ℤ pos 1)).under some other same (h.below (some_same x.over x.under y.over y.under some other same left));
  none = λ nothing. h.none (zero_same x.over x.under y.over y.under some other same nothing);
}
