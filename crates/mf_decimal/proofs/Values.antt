-- The decimal of a number literal: it is the only one, and there is none where the literal is too wide.
use Rattle.std.proofs.Common.{◌≡◌, ℕ, zero, suc, ◌+◌, ◌-◌, ◌*◌, ◌^◌, ◌<◌, ◌≤◌, ◌%◌, ◌/◌, Bool, true, false, cond, ◌++◌, length, inl, refl, add-zero, sym, ap, subst, ◌∙◌, ⊎_elim, arith}
use Rattle.std.specs.Str.Parse.{AllDigits, digits_value}
use Rattle.std.proofs.Math.Nat.{mul-le-mul, mul-mod_left, le_of_mul-le-mul_right, eq_of_mul-eq-mul_right, mul_assoc, mul_right_comm}
use Rattle.std.proofs.lemmas.Nat.{same_from_place}
use Rattle.std.proofs.lemmas.Bool.{cases_lt}
use Rattle.std.proofs.lemmas.Bool.{false≢true}
use Rattle.std.proofs.lemmas.Int.Digits.{digits_value-lt}
use Rattle.mf_decimal.specs.declared.decimal.Decimal.{Decimal}
use Rattle.mf_decimal.specs.Amount.{Amount, IsSame, amount, shifted}
use Rattle.mf_decimal.specs.Grammar.{Literal, IsWide, IsValue, raised_by, lowered_by, literal_amount}
use Rattle.mf_decimal.specs.Significand.{IsLong, IsPlaced}
use Rattle.mf_decimal.proofs.Tens.{ten_pos, ten_le, ten_sum, ten_add, ten_more}
use Rattle.mf_decimal.proofs.DigitSteps.{digits_append}
use Rattle.mf_decimal.proofs.Placing.{same_down, wide_down, wide_up, wide_by_shift}

-- a number that isn't zero is digits, of which the last is no zero, and zeros after them
pub record IsStripped (number : ℕ) : Type 0 where
  pub digits : ℕ
  pub zeros : ℕ
  pub parts : number ≡ digits * 10 ^ zeros
  pub last : 0 < digits % 10

strip_last : (number r : ℕ) → 0 < number → number % 10 ≡ r → (number % 10 ≡ 0 → IsStripped (number / 10)) → IsStripped number
strip_last number zero some e more =
    let front = more e in
    let power = ten_more front.zeros in
    let whole = front.parts in
    record { digits = front.digits; zeros = front.zeros + 1; parts = rw power (omega arith); last = front.last }
strip_last number (suc r) some e more = record { digits = number; zeros = 0; parts = omega arith; last = omega arith }

stripped_from : (fuel number : ℕ) → number ≤ fuel → 0 < number → IsStripped number
stripped_from zero number le some = absurd (omega arith)
stripped_from (suc fuel) number le some =
    strip_last number (number % 10) some refl (λ e. stripped_from fuel (number / 10) (omega arith) (omega arith))

pub stripped : (number : ℕ) → 0 < number → IsStripped number
stripped number some = stripped_from number number (omega arith) some

-- no more zeros stand at the end of a long number than behind its front
few_zeros : (n z f k r : ℕ) → n * 10 ^ z ≡ f * 10 ^ k + r → r < 10 ^ k → 0 < f % 10 → k < z → ⊥
few_zeros n z f k r e short last more =
    let power : 10 ^ z ≡ 10 ^ (z - k - 1) * 10 * 10 ^ k =
    sym (ten_sum (z - k) k z (omega arith)) ∙ ap (λ (p : ℕ). p * 10 ^ k) (sym (ten_sum (z - k - 1) 1 (z - k) (omega arith))) in
    let place : (n * 10 ^ (z - k - 1) * 10) * 10 ^ k + 0 ≡ f * 10 ^ k + r = by_power n (10 ^ (z - k - 1)) (10 ^ k) (10 ^ z) power ∙ e in
    let same = same_from_place (n * 10 ^ (z - k - 1) * 10) 0 f r (10 ^ k) (ten_pos k) short place in
    let none = mul-mod_left (n * 10 ^ (z - k - 1)) 10 in
    let last_none : f % 10 ≡ 0 = ap (λ (x : ℕ). x % 10) (sym same.0) ∙ none in
    omega arith
  where
    by_power : (m a q p : ℕ) → p ≡ a * 10 * q → (m * a * 10) * q + 0 ≡ m * p
    by_power m a q p e = rw e (omega arith)

-- the digits of a long number, without the zeros at its end, are more than 36
long_digits : (n z f k r : ℕ) → n * 10 ^ z ≡ f * 10 ^ k + r → z ≤ k → 10 ^ 36 ≤ f → 10 ^ 36 ≤ n
long_digits n z f k r e few long =
    let lower = mul-le-mul {n₁ = 10 ^ 36} {m₁ = 10 ^ k} {n₂ = f} {m₂ = 10 ^ k} long (omega arith) in
    let upper = mul-le-mul {n₁ = n} {m₁ = 10 ^ z} {n₂ = n} {m₂ = 10 ^ k} (omega arith) (ten_le z k few) in
    le_of_mul-le-mul_right {m = 10 ^ 36} {n = n} {k = 10 ^ k} (omega arith) (ten_pos k)

-- so it is too wide, wherever its point stands
wide_digits : (n up down : ℕ) → 0 < n % 10 → 10 ^ 36 ≤ n → IsWide (shifted (n * 10 ^ up) down)
wide_digits n up down last long =
    ⊎_elim
    (λ (below : up < down). record {
      coefficient = n;
      scale = down - up;
      plain = record { same = same_down n up down (omega arith); short = λ _. last };
      wide = inl long;
    })
    (λ (above : down ≤ up).
    let one = ten_pos (up - down) in
    let more = mul-le-mul {n₁ = n} {m₁ = 1} {n₂ = n} {m₂ = 10 ^ (up - down)} (omega arith) one in
    wide_up n up down above (omega arith))
    (cases_lt up down)

raised_sum : (n z r : ℕ) → n * 10 ^ z * 10 ^ r ≡ n * 10 ^ (z + r)
raised_sum n z r = mul_assoc n (10 ^ z) (10 ^ r) ∙ ap (λ (p : ℕ). n * p) (sym (ten_add z r))

pub wide_long : (number raised lowered : ℕ) → IsLong number → IsWide (shifted (number * 10 ^ raised) lowered)
wide_long number raised lowered l =
    let power = ten_pos l.rest_len in
    let some = mul-le-mul {n₁ = 10 ^ 36} {m₁ = 1} {n₂ = l.front} {m₂ = 10 ^ l.rest_len} l.long power in
    let s = stripped number (omega (arith, l.parts)) in
    let parts : s.digits * 10 ^ s.zeros ≡ l.front * 10 ^ l.rest_len + l.rest = sym s.parts ∙ l.parts in
    let few : s.zeros ≤ l.rest_len =
    ⊎_elim (λ (more : l.rest_len < s.zeros). absurd (few_zeros s.digits s.zeros l.front l.rest_len l.rest parts l.short l.last more)) (λ (few : s.zeros ≤ l.rest_len). few) (cases_lt l.rest_len s.zeros) in
    let long = long_digits s.digits s.zeros l.front l.rest_len l.rest parts few l.long in
    let P : ℕ → Type 0 = λ n. IsWide (shifted n lowered) in
    subst P (sym (ap (λ (n : ℕ). n * 10 ^ raised) s.parts ∙ raised_sum s.digits s.zeros raised)) (wide_digits s.digits (s.zeros + raised) lowered s.last long)

-- more digits after a long number
pub long_more : (number more k : ℕ) → IsLong number → more < 10 ^ k → IsLong (number * 10 ^ k + more)
long_more number more k l short =
    let power = ten_add l.rest_len k in
    let next = mul-le-mul {n₁ = l.rest + 1} {m₁ = 10 ^ k} {n₂ = 10 ^ l.rest_len} {m₂ = 10 ^ k} (omega (arith, l.short)) (omega arith) in
    record {
      front = l.front;
      rest_len = l.rest_len + k;
      rest = l.rest * 10 ^ k + more;
      parts = more_parts number more l.front l.rest (10 ^ l.rest_len) (10 ^ k) (10 ^ (l.rest_len + k)) l.parts power;
      short = rw power (omega arith);
      long = l.long;
      last = l.last;
    }
  where
    more_parts : (n m f r p q pq : ℕ) → n ≡ f * p + r → pq ≡ p * q → n * q + m ≡ f * pq + (r * q + m)
    more_parts n m f r p q pq e power = rw (e, power) (omega arith)

-- a literal with such a long number before the point, or in all
pub wide_whole : (number : Literal) (n : ℕ) → AllDigits 10 number.fraction → n ≡ digits_value 10 number.whole → IsLong n → IsWide (literal_amount number)
wide_whole number n all e l =
    let P : ℕ → Type 0 = λ x. IsWide (shifted (x * 10 ^ raised_by number) (length number.fraction + lowered_by number)) in
    let long = long_more n (digits_value 10 number.fraction) (length number.fraction) l (digits_value-lt 10 number.fraction all) in
    let total : n * 10 ^ length number.fraction + digits_value 10 number.fraction ≡ digits_value 10 (number.whole ++ number.fraction) =
    ap (λ (x : ℕ). x * 10 ^ length number.fraction + digits_value 10 number.fraction) e ∙ sym (digits_append number.whole number.fraction) in
    subst P total (wide_long _ (raised_by number) (length number.fraction + lowered_by number) long)

pub wide_all : (number : Literal) (n : ℕ) → n ≡ digits_value 10 number.whole → IsLong (n * 10 ^ length number.fraction + digits_value 10 number.fraction) → IsWide (literal_amount number)
wide_all number n e l =
    let P : ℕ → Type 0 = λ x. IsWide (shifted (x * 10 ^ raised_by number) (length number.fraction + lowered_by number)) in
    let total : n * 10 ^ length number.fraction + digits_value 10 number.fraction ≡ digits_value 10 (number.whole ++ number.fraction) =
    ap (λ (x : ℕ). x * 10 ^ length number.fraction + digits_value 10 number.fraction) e ∙ sym (digits_append number.whole number.fraction) in
    subst P total (wide_long _ (raised_by number) (length number.fraction + lowered_by number) l)

pub all_value : (number : Literal) (w n : ℕ) → w ≡ digits_value 10 number.whole → n ≡ w * 10 ^ length number.fraction + digits_value 10 number.fraction → digits_value 10 (number.whole ++ number.fraction) ≡ n
all_value number w n e f =
    digits_append number.whole number.fraction ∙ ap (λ (x : ℕ). x * 10 ^ length number.fraction + digits_value 10 number.fraction) (sym e) ∙ sym f

-- a literal of zeros has the value zero
pub zero_value : (number : Literal) (x : Decimal) (n z : ℕ) → digits_value 10 (number.whole ++ number.fraction) ≡ n * 10 ^ z → n ≡ 0 → x.coefficient ≡ 0 → x.negative ≡ false → IsValue number x
zero_value number x n z e none coefficient negative =
    let zero_digits : digits_value 10 (number.whole ++ number.fraction) ≡ 0 = e ∙ rw none (omega arith) in
    record {
      same = rw (zero_digits, coefficient) (omega arith);
      sign = (λ yes. absurd (false≢true (sym negative ∙ yes)), λ both. absurd (omega (arith, both.1)));
    }

-- a far exponent makes any other literal too wide
wide_far : (minus : Bool) (n z f e : ℕ) → 0 < n % 10 → z < 2 ^ 64 → f < 2 ^ 64 → 10 ^ 30 ≤ e → IsWide (shifted (n * 10 ^ z * 10 ^ cond minus 0 e) (f + cond minus e 0))
wide_far true n z f e last zeros len far =
    let P : ℕ → Type 0 = λ x. IsWide (shifted x (f + e)) in
    subst P (sym (raised_sum n z 0)) (wide_down n (z + 0) (f + e) last (omega arith))
wide_far false n z f e last zeros len far =
    let P : ℕ → Type 0 = λ x. IsWide (shifted x (f + 0)) in
    subst P (sym (raised_sum n z e)) (wide_up n (z + e) (f + 0) (omega arith) (wide_by_shift n (z + e - (f + 0)) (omega arith) (omega arith)))

pub wide_exponent : (number : Literal) (n z : ℕ) → digits_value 10 (number.whole ++ number.fraction) ≡ n * 10 ^ z → 0 < n % 10 → z < 2 ^ 64 → length number.fraction < 2 ^ 64 → 10 ^ 30 ≤ digits_value 10 number.exponent → IsWide (literal_amount number)
wide_exponent number n z e last zeros len far =
    let P : ℕ → Type 0 = λ x. IsWide (shifted (x * 10 ^ raised_by number) (length number.fraction + lowered_by number)) in
    subst P (sym e) (wide_far number.exponent_minus n z (length number.fraction) (digits_value 10 number.exponent) last zeros len far)

-- the digits at their place are the literal's value
pub placed_value : (number : Literal) (x : Decimal) (n z r l : ℕ) → digits_value 10 (number.whole ++ number.fraction) ≡ n * 10 ^ z → r ≡ raised_by number → l ≡ lowered_by number → IsPlaced x number.minus (shifted (n * 10 ^ (z + r)) (length number.fraction + l)) → IsValue number x
placed_value number x n z r l e raised lowered p =
    let P : ℕ → Type 0 = λ y. IsSame (amount x) (shifted y (length number.fraction + l)) in
    let at_r = subst P (sym (raised_sum n z r) ∙ ap (λ (y : ℕ). y * 10 ^ r) (sym e)) p.same in
    let Q : ℕ → Type 0 = λ k. IsSame (amount x) (shifted (digits_value 10 (number.whole ++ number.fraction) * 10 ^ k) (length number.fraction + l)) in
    let R : ℕ → Type 0 = λ k. IsSame (amount x) (shifted (digits_value 10 (number.whole ++ number.fraction) * 10 ^ raised_by number) (length number.fraction + k)) in
    record {
      same = subst R lowered (subst Q raised at_r);
      sign = (λ yes. (sym p.sign ∙ yes, p.some), λ both. p.sign ∙ both.0);
    }

pub placed_wide : (number : Literal) (n z r l : ℕ) → digits_value 10 (number.whole ++ number.fraction) ≡ n * 10 ^ z → r ≡ raised_by number → l ≡ lowered_by number → IsWide (shifted (n * 10 ^ (z + r)) (length number.fraction + l)) → IsWide (literal_amount number)
placed_wide number n z r l e raised lowered w =
    let P : ℕ → Type 0 = λ y. IsWide (shifted y (length number.fraction + l)) in
    let at_r = subst P (sym (raised_sum n z r) ∙ ap (λ (y : ℕ). y * 10 ^ r) (sym e)) w in
    let Q : ℕ → Type 0 = λ k. IsWide (shifted (digits_value 10 (number.whole ++ number.fraction) * 10 ^ k) (length number.fraction + l)) in
    let R : ℕ → Type 0 = λ k. IsWide (shifted (digits_value 10 (number.whole ++ number.fraction) * 10 ^ raised_by number) (length number.fraction + k)) in
    subst R lowered (subst Q raised at_r)

-- two fractions that are a third one are one
pub same_as_both : (x y v : Amount) → 0 < v.under → IsSame x v → IsSame y v → IsSame x y
same_as_both x y v some e f =
    eq_of_mul-eq-mul_right v.under some (x.over * y.under) (y.over * x.under)
    (crossed x.over x.under y.over y.under v.over v.under e f)
  where
    crossed : (a b c d p q : ℕ) → a * q ≡ p * b → c * q ≡ p * d → a * d * q ≡ c * b * q
    crossed a b c d p q e f = mul_right_comm a d q ∙ ap (λ (x : ℕ). x * d) e ∙ mul_right_comm p b d ∙ ap (λ (x : ℕ). x * b) (sym f) ∙ mul_right_comm c q b

-- the plain form is one
pub plain_scales : (c s d t : ℕ) → c * 10 ^ t ≡ d * 10 ^ s → 0 < d % 10 → s < t → ⊥
plain_scales c s d t e last more =
    let power : 10 ^ t ≡ 10 ^ (t - s - 1) * 10 * 10 ^ s =
    sym (ten_sum (t - s) s t (omega arith)) ∙ ap (λ (p : ℕ). p * 10 ^ s) (sym (ten_sum (t - s - 1) 1 (t - s) (omega arith))) in
    few_zeros c t d s 0 (e ∙ sym (add-zero (d * 10 ^ s))) (ten_pos s) last more

pub same_plain : (c s d t : ℕ) → c * 10 ^ t ≡ d * 10 ^ s → (0 < s → 0 < c % 10) → (0 < t → 0 < d % 10) → (c ≡ d) × (s ≡ t)
same_plain c s d t e first second =
    let not_less : s < t → ⊥ = λ more. plain_scales c s d t e (second (omega arith)) more in
    let not_more : t < s → ⊥ = λ more. plain_scales d t c s (sym e) (first (omega arith)) more in
    let scales : s ≡ t = ⊎_elim (λ (l : s < t). absurd (not_less l)) (λ (g : t ≤ s). ⊎_elim (λ (l : t < s). absurd (not_more l)) (λ (h : s ≤ t). omega arith) (cases_lt t s)) (cases_lt s t) in
    (eq_of_mul-eq-mul_right (10 ^ t) (ten_pos t) c d (e ∙ ap (λ (k : ℕ). d * 10 ^ k) scales), scales)

-- an amount that a decimal has is not too wide
pub not_wide : (x : Decimal) (v : Amount) → 0 < v.under → IsSame (amount x) v → IsWide v → ⊥
not_wide x v some same w =
    let joined = same_as_both (amount x) (shifted w.coefficient w.scale) v some same w.plain.same in
    let plain = same_plain x.coefficient x.scale w.coefficient w.scale joined x.plain w.plain.short in
    let short = x.short in
    let near = x.near in
    ⊎_elim (λ (long : 10 ^ 36 ≤ w.coefficient). absurd (omega arith)) (λ (far : 36 < w.scale). absurd (omega arith)) w.wide

-- which way an exponent moves
pub minus_moves : (number : Literal) (e : ℕ) → number.exponent_minus ≡ true → e ≡ digits_value 10 number.exponent → (0 ≡ raised_by number) × (e ≡ lowered_by number)
minus_moves number e minus value = (rw minus refl, rw minus value)

pub plus_moves : (number : Literal) (e : ℕ) → number.exponent_minus ≡ false → e ≡ digits_value 10 number.exponent → (e ≡ raised_by number) × (0 ≡ lowered_by number)
plus_moves number e plus value = (rw plus value, rw plus refl)

pub some_under : (number : Literal) → 0 < (literal_amount number).under
some_under number = ten_pos (length number.fraction + lowered_by number)
