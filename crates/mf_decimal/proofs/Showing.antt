-- An amount shown: its trailing zeros dropped, and zeros added up to the least fraction digits.
use Rattle.std.proofs.Common.{◌≡◌, ℕ, zero, suc, ◌+◌, ◌-◌, ◌*◌, ◌/◌, ◌%◌, ◌^◌, ◌<◌, ◌≤◌, ◌↔◌, Bool, IsTrue, sym, ap, ◌∙◌, ⊎_elim, arith}
use Rattle.std.proofs.Math.Nat.{mul-lt-mul_of_pos_right, mul-pos, add-mul, mul-one}
use Rattle.std.proofs.lemmas.Bool.{cases_lt}
use Rattle.std.proofs.lemmas.Nat.{mod_below, div-add-mod'}
use Rattle.mf_decimal.specs.declared.shown.Shown.{Shown}
use Rattle.mf_decimal.specs.declared.shown.Digits.{Digits}
use Rattle.mf_decimal.specs.declared.shown.Digits.TheVariants.{Fraction, Significant}
use Rattle.mf_decimal.specs.Amount.{Amount, IsSame, ten_to, times, shown_amount}
use Rattle.mf_decimal.specs.Rounding.{IsLeast, IsShortest, RoundsTo}
use Rattle.mf_decimal.specs.Dropping.{IsTrimmed}
use Rattle.mf_decimal.proofs.Tens.{ten_pos, ten_sum, ten_add}
use Rattle.mf_decimal.proofs.Values.{same_as_both, plain_scales}
use Rattle.mf_decimal.proofs.Units.{place_same}
use Rattle.mf_decimal.proofs.Dropped.{room_whole}

-- one zero less
pub trim_step : (c s s0 c0 : ℕ) → s ≤ s0 → 0 < s → c % 10 ≡ 0 → c * 10 ^ (s0 - s) ≡ c0 → c / 10 * 10 ^ (s0 - (s - 1)) ≡ c0
trim_step c s s0 c0 le some last e =
    let more : 10 ^ (s0 - (s - 1)) ≡ 10 ^ (s0 - s) * 10 = sym (ten_sum (s0 - s) 1 (s0 - (s - 1)) (omega arith)) in
    let front : c / 10 * 10 ≡ c = omega arith in
    rw more (regroup (c / 10) (10 ^ (s0 - s)) c c0 front e)
  where
    regroup : (a p c c0 : ℕ) → a * 10 ≡ c → c * p ≡ c0 → a * (p * 10) ≡ c0
    regroup a p c c0 front e = omega (arith, ap (λ (x : ℕ). x * p) front)

pub room_trimmed : (c s least c' s' : ℕ) → IsTrimmed c s least c' s' → s ≤ 36 → c % 10 ^ s * 10 ^ (least - s) < 10 ^ 36 → c' % 10 ^ s' * 10 ^ (least - s') < 10 ^ 36
room_trimmed c s least c' s' t near room =
    ⊎_elim
    (λ (more : least < s). room_whole (c' % 10 ^ s') s' least (mod_below c' (10 ^ s') (ten_pos s')) (t.enough (omega arith)) (omega (arith, t.fewer)))
    (λ (le : s ≤ least).
    let scale : s' ≡ s = t.kept le in
    let none : s - s' ≡ 0 = omega arith in
    let whole : c' ≡ c = sym (mul-one c') ∙ ap (λ (k : ℕ). c' * 10 ^ k) (sym none) ∙ t.same in
    rw (whole, scale) room)
    (cases_lt least s)

-- the number that the shown digits write
pub over_shown : (c p pad k : ℕ) → k ≡ p * pad → c / p * k + c % p * pad ≡ c * pad
over_shown c p pad k e = rw e (regroup (c / p) (c % p) c p pad (div-add-mod' c p))
  where
    regroup : (a b c p q : ℕ) → a * p + b ≡ c → a * (p * q) + b * q ≡ c * q
    regroup a b c p q e = omega (arith, ap (λ (x : ℕ). x * q) e, add-mul (a * p) b q)

pub within_shown : (c p pad k : ℕ) → 0 < p → 0 < pad → k ≡ p * pad → c % p * pad < k
within_shown c p pad k some other e = rw e (mul-lt-mul_of_pos_right {m = c % p} {n = p} {k = pad} (mod_below c p some) other)

pub same_shown : (o c s c' s' pad : ℕ) → s' ≤ s → c' * 10 ^ (s - s') ≡ c → o ≡ c' * 10 ^ pad → o * 10 ^ s ≡ c * 10 ^ (s' + pad)
same_shown o c s c' s' pad le e over =
    rw (over, ten_add s' pad) (regroup c c' (10 ^ pad) (10 ^ s) (10 ^ (s - s')) (10 ^ s') (ten_sum (s - s') s' s (omega arith)) e)
  where
    regroup : (c c' q p r t : ℕ) → r * t ≡ p → c' * r ≡ c → c' * q * p ≡ c * (t * q)
    regroup c c' q p r t power e = omega (arith, ap (λ (x : ℕ). c' * q * x) power, ap (λ (x : ℕ). x * t * q) e)

-- fewer fraction digits don't write it
pub shortest_shown : (y : Shown) (c s least c' s' pad : ℕ) → IsTrimmed c s least c' s' → pad ≡ least - s' → y.fraction_len ≡ s' + pad → (shown_amount y).over ≡ c' * 10 ^ pad → IsShortest y least
shortest_shown y c s least c' s' pad t padding len over = record {
  enough = omega arith;
  fewest = λ k enough w. ⊎_elim
      (λ (less : k < y.fraction_len).
      let none : pad ≡ 0 = omega arith in
      let scale : y.fraction_len ≡ s' = omega arith in
      let number : (shown_amount y).over ≡ c' = over ∙ ap (λ (j : ℕ). c' * 10 ^ j) none ∙ mul-one c' in
      let same : w.digits * 10 ^ s' ≡ c' * 10 ^ k = ap (λ (j : ℕ). w.digits * 10 ^ j) (sym scale) ∙ w.same ∙ ap (λ (x : ℕ). x * 10 ^ k) number in
      absurd (plain_scales w.digits k c' s' same (t.last (omega arith)) (omega arith)))
      (λ (le : y.fraction_len ≤ k). le)
      (cases_lt k y.fraction_len);
}

-- a sign where something is shown
pub some_shown : (c p pad : ℕ) → 0 < c → 0 < pad → 0 < c / p + c % p * pad
some_shown c p pad some other = some_part (c / p) (c % p) c p pad (div-add-mod' c p) some other
  where
    some_part : (a b c p pad : ℕ) → a * p + b ≡ c → 0 < c → 0 < pad → 0 < a + b * pad
    some_part (suc a) b c p pad e some other = omega arith
    some_part zero zero c p pad e some other = absurd (omega arith)
    some_part zero (suc b) c p pad e some other = omega (arith, mul-pos {m = suc b} {n = pad} (omega arith) other)

pub sign_shown : (result negative : Bool) (o c pad : ℕ) → o ≡ c * pad → 0 < pad → (IsTrue result ↔ (IsTrue negative × (0 < c))) → IsTrue result ↔ (IsTrue negative × (0 < o))
sign_shown result negative o c pad e some h = (
  λ r. ((h.0 r).0, rw e (mul-pos {m = c} {n = pad} (h.0 r).1 some)),
  λ both. h.1 (both.0, factor c o both.1 e),
)
  where
    factor : (c o : ℕ) → 0 < o → o ≡ c * pad → 0 < c
    factor zero o some e = absurd (omega arith)
    factor (suc c) o some e = omega arith

-- what holds of the rounded amount holds of the shown one
pub rounds_same : (x y v : Amount) (digits : Digits) → 0 < v.under → IsSame y v → RoundsTo x digits v → RoundsTo x digits y
rounds_same x y v digits some same r =
    record { unit = r.unit; is_unit = r.is_unit; count = r.count; multiple = same_as_both y (times r.count (ten_to r.unit)) v some same (sym r.multiple); nearest = r.nearest }

pub least_same : (y v : Amount) (digits : Digits) (least : ℕ) → 0 < v.under → 0 < y.under → IsSame y v → IsLeast digits v least → IsLeast digits y least
least_same y v (Fraction min max) least some other same h = h
least_same y v (Significant min max) least some other same h = (h.0, place_same v y h.0 some other (sym same) h.1, h.2)
