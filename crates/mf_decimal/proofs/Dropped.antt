-- Digits dropped down to a unit.
use Rattle.std.proofs.Common.{◌≡◌, ◌≢◌, ℕ, ◌+◌, ◌-◌, ◌*◌, ◌/◌, ◌%◌, ◌^◌, ◌<◌, ◌≤◌, pos, neg_ℤ, ◌+ℤ◌, ◌-ℤ◌, inl, inr, refl, sym, ap, subst, ◌∙◌, ⊎_elim, arith}
use Rattle.std.proofs.Math.Nat.{mul-le-mul, mul-lt-mul_of_pos_right, mul-pos, eq_of_mul-eq-mul_right, mul_assoc, mul-one, mod-le}
use Rattle.std.proofs.lemmas.Bool.{cases_lt}
use Rattle.std.proofs.lemmas.Nat.{mod_below, div_below}
use Rattle.std.proofs.lemmas.Int.{ints}
use Rattle.mf_decimal.specs.declared.decimal.Decimal.{Decimal}
use Rattle.mf_decimal.specs.declared.shown.Digits.{Digits}
use Rattle.mf_decimal.specs.declared.shown.Digits.TheVariants.{Fraction, Significant}
use Rattle.mf_decimal.specs.Amount.{Amount, ten_to, shifted, amount}
use Rattle.mf_decimal.specs.Rounding.{IsNearest, IsLeast, RoundsTo}
use Rattle.mf_decimal.specs.Dropping.{KeepsUnit, IsDrop, IsDigitCount}
use Rattle.mf_decimal.proofs.Tens.{ten_pos, ten_le, ten_sum, ten_add}
use Rattle.mf_decimal.proofs.Nearest.{nearest_exact, nearest_one, nearest_scaled}
use Rattle.mf_decimal.proofs.Units.{some_power, some_tenth, power_of, or_zero_of, first_place}

-- a unit that is ten to n - m in the last digit
coarse : (o u s m n : ℕ) → o * 10 ^ (s + m) ≡ 10 ^ n * u → m ≤ n → o * 10 ^ s ≡ 10 ^ (n - m) * u
coarse o u s m n e le =
    eq_of_mul-eq-mul_right (10 ^ m) (ten_pos m) (o * 10 ^ s) (10 ^ (n - m) * u)
    (by_parts o u (10 ^ s) (10 ^ m) (10 ^ (n - m)) (10 ^ (s + m)) (10 ^ n) (ten_add s m) (sym (ten_sum (n - m) m n (omega arith))) e)
  where
    by_parts : (o u p q r pq w : ℕ) → pq ≡ p * q → w ≡ r * q → o * pq ≡ w * u → o * p * q ≡ r * u * q
    by_parts o u p q r pq w first second e = omega (arith, ap (λ (x : ℕ). o * x) (sym first) ∙ e ∙ ap (λ (x : ℕ). x * u) second)

fine : (o u s m n : ℕ) → o * 10 ^ (s + m) ≡ 10 ^ n * u → n ≤ m → o * 10 ^ s * 10 ^ (m - n) ≡ u
fine o u s m n e le =
    eq_of_mul-eq-mul_right (10 ^ n) (ten_pos n) (o * 10 ^ s * 10 ^ (m - n)) u
    (by_parts o u (10 ^ s) (10 ^ (m - n)) (10 ^ n) (10 ^ m) (10 ^ (s + m)) (ten_add s m) (sym (ten_sum (m - n) n m (omega arith))) e)
  where
    by_parts : (o u p r w q pq : ℕ) → pq ≡ p * q → q ≡ r * w → o * pq ≡ w * u → o * p * r * w ≡ u * w
    by_parts o u p r w q pq first second e = omega (arith, ap (λ (x : ℕ). o * x) (sym (first ∙ ap (λ (x : ℕ). p * x) second)) ∙ e)

keeps_unit : (unit : Amount) (s m n drop : ℕ) → unit.over * 10 ^ (s + m) ≡ 10 ^ n * unit.under → drop ≡ n - m → KeepsUnit unit s drop
keeps_unit unit s m n drop e is =
    ⊎_elim
    (λ (more : m < n). inl (rw is (coarse unit.over unit.under s m n e (omega arith))))
    (λ (le : n ≤ m). inr (omega arith, (m - n, fine unit.over unit.under s m n e le)))
    (cases_lt m n)

pub fraction_drop : (x : Decimal) (min max drop : ℕ) → drop ≡ x.scale - max → IsDrop x (Fraction min max) drop
fraction_drop x min max drop is =
    let z = neg_ℤ (pos max) in
    let place : z ≡ pos 0 -ℤ pos max = omega (arith, ints) in
    let power = power_of z 0 max place in
    record {
      unit = z;
      is_unit = refl;
      keeps = keeps_unit (ten_to z) x.scale max x.scale drop (shift (ten_to z).over (ten_to z).under (10 ^ x.scale) (10 ^ max) (10 ^ (x.scale + max)) (ten_add x.scale max) power) is;
    }
  where
    shift : (o u p q pq : ℕ) → pq ≡ p * q → o * q ≡ 1 * u → o * pq ≡ p * u
    shift o u p q pq e power = rw e (omega (arith, ap (λ (x : ℕ). x * p) power))

pub significant_drop : (x : Decimal) (min max n drop : ℕ) → IsDigitCount x.coefficient n → drop ≡ n - max → IsDrop x (Significant min max) drop
significant_drop x min max n drop h is =
    let p = pos n -ℤ pos (x.scale + 1) in
    let z = p -ℤ pos max +ℤ pos 1 in
    let place : z ≡ pos n -ℤ pos (x.scale + max) = omega (arith, ints) in
    record {
      unit = z;
      is_unit = (p, first_place x.coefficient x.scale n h (zero_scale x), refl);
      keeps = keeps_unit (ten_to z) x.scale max n drop (power_of z n (x.scale + max) place) is;
    }
  where
    zero_scale : (x : Decimal) → x.coefficient ≡ 0 → x.scale ≡ 0
    zero_scale x none = ⊎_elim (λ (some : 0 < x.scale). absurd (omega (arith, x.plain some))) (λ (le : x.scale ≤ 0). omega arith) (cases_lt 0 x.scale)

-- the digits that are kept are the amount rounded to that unit
pub rounded_to : (x : Decimal) (digits : Digits) (drop kept c s : ℕ) → IsDrop x digits drop → IsNearest x.coefficient (10 ^ drop) kept → c * 10 ^ x.scale ≡ kept * 10 ^ drop * 10 ^ s → RoundsTo (amount x) digits (shifted c s)
rounded_to x digits drop kept c s d n e =
    let unit = ten_to d.unit in
    ⊎_elim
    (λ (same : unit.over * 10 ^ x.scale ≡ 10 ^ drop * unit.under).
    let P : ℕ → Type 0 = λ u. IsNearest (x.coefficient * unit.under) u kept in
    record {
      unit = d.unit;
      is_unit = d.is_unit;
      count = kept;
      multiple = eq_of_mul-eq-mul_right (10 ^ x.scale) (ten_pos x.scale) (c * unit.under) (kept * unit.over * 10 ^ s)
          (kept_multiple c unit.under kept unit.over (10 ^ s) (10 ^ x.scale) (10 ^ drop) e same);
      nearest = subst P (sym same) (nearest_scaled x.coefficient (10 ^ drop) kept unit.under (some_power d.unit) n);
    })
    (λ (finer : (drop ≡ 0) × ((k : ℕ) × (unit.over * 10 ^ x.scale * 10 ^ k ≡ unit.under))).
    let P : ℕ → Type 0 = λ u. IsNearest x.coefficient u kept in
    let whole : kept ≡ x.coefficient = nearest_one x.coefficient kept (subst P (ap (λ (k : ℕ). 10 ^ k) finer.0) n) in
    let k = finer.1.0 in
    record {
      unit = d.unit;
      is_unit = d.is_unit;
      count = kept * 10 ^ k;
      multiple = eq_of_mul-eq-mul_right (10 ^ x.scale) (ten_pos x.scale) (c * unit.under) (kept * 10 ^ k * unit.over * 10 ^ s)
          (finer_multiple c unit.under kept unit.over (10 ^ s) (10 ^ x.scale) (10 ^ drop) (10 ^ k) e (ap (λ (j : ℕ). 10 ^ j) finer.0) finer.1.1);
      nearest = nearest_exact (x.coefficient * unit.under) (unit.over * 10 ^ x.scale) (kept * 10 ^ k)
          (finer_exact kept x.coefficient unit.over unit.under (10 ^ x.scale) (10 ^ k) whole finer.1.1) (mul-pos {m = unit.over} {n = 10 ^ x.scale} (some_tenth d.unit) (ten_pos x.scale));
    })
    d.keeps
  where
    kept_multiple : (c u k o q p r : ℕ) → c * p ≡ k * r * q → o * p ≡ r * u → c * u * p ≡ k * o * q * p
    kept_multiple c u k o q p r e same = omega (arith, ap (λ (x : ℕ). x * u) e, ap (λ (x : ℕ). k * q * x) same)

    finer_multiple : (c u k o q p r t : ℕ) → c * p ≡ k * r * q → r ≡ 1 → o * p * t ≡ u → c * u * p ≡ k * t * o * q * p
    finer_multiple c u k o q p r t e one same = omega (arith, ap (λ (x : ℕ). x * u) (e ∙ ap (λ (x : ℕ). k * x * q) one), ap (λ (x : ℕ). k * q * x) same)

    finer_exact : (k c o u p t : ℕ) → k ≡ c → o * p * t ≡ u → k * t * (o * p) ≡ c * u
    finer_exact k c o u p t e same = omega (arith, ap (λ (x : ℕ). k * x) same, ap (λ (x : ℕ). x * u) e)

-- least fraction digits by the first digit's place
pub least_some : (c s m min max least : ℕ) → IsDigitCount c m → c ≢ 0 → least ≡ min + s - m → IsLeast (Significant min max) (shifted c s) least
least_some c s m min max least h some is =
    let p = pos m -ℤ pos (s + 1) in
    let place : pos min -ℤ p -ℤ pos 1 ≡ pos (min + s) -ℤ pos m = omega (arith, ints) in
    (p, first_place c s m h (λ none. absurd (some none)), is ∙ sym (or_zero_of (pos min -ℤ p -ℤ pos 1) (min + s) m place))

pub least_none : (c s min max least : ℕ) → c ≡ 0 → least ≡ min - 1 → IsLeast (Significant min max) (shifted c s) least
least_none c s min max least none is =
    let place : pos min -ℤ pos 0 -ℤ pos 1 ≡ pos min -ℤ pos 1 = omega (arith, ints) in (
      pos 0,
      record { at_least = λ some. absurd (omega arith); below = λ some. absurd (omega arith); none = λ _. refl },
      is ∙ sym (or_zero_of (pos min -ℤ pos 0 -ℤ pos 1) min 1 place),
    )

-- a fraction after its padding is short
pub room_padded : (r s least : ℕ) → r < 10 ^ s → s ≤ least → least ≤ 36 → r * 10 ^ (least - s) < 10 ^ 36
room_padded r s least short le near =
    let less = mul-lt-mul_of_pos_right {m = r} {n = 10 ^ s} {k = 10 ^ (least - s)} short (ten_pos (least - s)) in
    let power = ten_sum s (least - s) least (omega arith) in
    let low = ten_le least 36 near in
    omega arith

pub room_whole : (r s least : ℕ) → r < 10 ^ s → least ≤ s → s ≤ 36 → r * 10 ^ (least - s) < 10 ^ 36
room_whole r s least short le near =
    let none : least - s ≡ 0 = omega arith in
    let low = ten_le s 36 near in
    rw none (omega arith)

-- a number of 36 digits has no more
pub digits_short : (c n : ℕ) → IsDigitCount c n → c < 10 ^ 36 → n ≤ 36
digits_short c n h short =
    ⊎_elim
    (λ (more : 36 < n).
    let low = ten_le 36 (n - 1) (omega arith) in
    ⊎_elim (λ (some : 0 < c). absurd (omega (arith, h.at_least some))) (λ (le : c ≤ 0). omega (arith, h.zero)) (cases_lt 0 c))
    (λ (le : n ≤ 36). le)
    (cases_lt 36 n)

-- what is kept and moved back is short
pub kept_short : (c d s kept p : ℕ) → c < 10 ^ 36 → d ≤ 36 → s ≤ d → kept ≤ c / 10 ^ d + 1 → p ≡ 10 ^ (d - s) → kept * p ≤ 10 ^ 36
kept_short c d s kept p short near le most e =
    let whole : 10 ^ (36 - d) * 10 ^ d ≡ 10 ^ 36 = ten_sum (36 - d) d 36 (omega arith) in
    let front = div_below c (10 ^ d) (10 ^ (36 - d)) (ten_pos d) (omega arith) in
    let product = mul-le-mul {n₁ = kept} {m₁ = p} {n₂ = 10 ^ (36 - d)} {m₂ = p} (omega arith) (omega arith) in
    let power : 10 ^ (36 - d) * p ≡ 10 ^ (36 - s) = rw e (ten_sum (36 - d) (d - s) (36 - s) (omega arith)) in
    let low = ten_le (36 - s) 36 (omega arith) in
    omega arith

-- the two forms of what is kept
pub kept_fraction : (kept d s : ℕ) → d ≤ s → kept * 10 ^ s ≡ kept * 10 ^ d * 10 ^ (s - d)
kept_fraction kept d s le = sym (mul_assoc kept (10 ^ d) (10 ^ (s - d)) ∙ ap (λ (p : ℕ). kept * p) (ten_sum d (s - d) s (omega arith)))

pub kept_whole : (kept d s p : ℕ) → s ≤ d → p ≡ 10 ^ (d - s) → kept * p * 10 ^ s ≡ kept * 10 ^ d * 10 ^ 0
kept_whole kept d s p le e =
    mul_assoc kept p (10 ^ s) ∙ ap (λ (q : ℕ). kept * q) (ap (λ (q : ℕ). q * 10 ^ s) e ∙ ten_sum (d - s) s d (omega arith)) ∙ sym (mul-one (kept * 10 ^ d))

-- where the padding is the digits that the number lacks
pub room_digits : (c s m min least : ℕ) → IsDigitCount c m → min ≤ 21 → s ≤ 36 → least ≡ min + s - m → c % 10 ^ s * 10 ^ (least - s) < 10 ^ 36
room_digits c s m min least h low near is =
    let rest = mod_below c (10 ^ s) (ten_pos s) in
    ⊎_elim
    (λ (some : m < min).
    let pad : least - s ≡ min - m = omega arith in
    let part = mod-le c (10 ^ s) in
    let less = mul-lt-mul_of_pos_right {m = c % 10 ^ s} {n = 10 ^ m} {k = 10 ^ (min - m)} (omega (arith, h.below)) (ten_pos (min - m)) in
    let power = ten_sum m (min - m) min (omega arith) in
    let few = ten_le min 21 low in
    rw pad (omega arith))
    (λ (none : min ≤ m). room_whole (c % 10 ^ s) s least rest (omega arith) near)
    (cases_lt m min)

pub room_fraction : (c s min : ℕ) → min ≤ 20 → s ≤ 36 → c % 10 ^ s * 10 ^ (min - s) < 10 ^ 36
room_fraction c s min low near =
    let rest = mod_below c (10 ^ s) (ten_pos s) in
    ⊎_elim
    (λ (some : s < min). room_padded (c % 10 ^ s) s min rest (omega arith) (omega arith))
    (λ (none : min ≤ s). room_whole (c % 10 ^ s) s min rest none near)
    (cases_lt s min)
