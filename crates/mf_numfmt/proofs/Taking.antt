-- Digits taken off a number, the last one first.
use Rattle.std.proofs.Common.{◌≡◌, ℕ, ◌+◌, ◌-◌, ◌*◌, ◌/◌, ◌%◌, ◌^◌, ◌<◌, ◌≤◌, max, List, length, get_or, set, replicate, sym, ap, ◌∙◌, ⊎_elim, arith, subst}
use Rattle.std.proofs.Math.Nat.{div-one, div-div-eq-div-mul, div-eq_of_lt, lt-div-mul-add, div-mul-le_self, le-mul_of_pos_right, mul_comm, pow-le-pow_right, one-le-pow}
use Rattle.std.proofs.lemmas.Bool.{cases_lt}
use Rattle.std.proofs.lemmas.Fmt.{decimal_is_IsNumeral_wide, length-decimal-le_wide}
use Rattle.std.proofs.lemmas.Int.Digits.{digits_value-lt}
use Rattle.std.proofs.lemmas.List.{get_or-set_same, get_or-set_other, length-set, get_or-replicate, get_or_past, length-replicate}
use Rattle.std.proofs.lemmas.Nat.{pow-add}
use Rattle.std.specs.Fmt.{decimal}
use Rattle.mf_numfmt.specs.NumberText.{digit_count}

-- the digits of n at the places below count are taken, and the rest of n is left
pub record IsTaken (n : ℕ) (digits : List ℕ) (count left : ℕ) : Type 0 where
  pub is_left : left ≡ n / 10 ^ count
  pub room : length digits ≡ 56
  pub low : (k : ℕ) → k < count → get_or digits k 0 ≡ n / 10 ^ k % 10
  pub high : (k : ℕ) → count ≤ k → get_or digits k 0 ≡ 0
  pub some : 0 < count → 0 < n / 10 ^ (count - 1)

ten_pos : (k : ℕ) → 0 < 10 ^ k
ten_pos k = omega (arith, one-le-pow k 10 (omega arith))

ten_le : (i j : ℕ) → i ≤ j → 10 ^ i ≤ 10 ^ j
ten_le i j h = pow-le-pow_right {n = 10} (omega arith) h

-- a list of one number alone
alike : (n k x : ℕ) → get_or (replicate n x) k x ≡ x
alike n k x = ⊎_elim
    (λ (less : k < n). get_or-replicate n k x x less)
    (λ (le : n ≤ k). get_or_past (replicate n x) k x (omega (arith, length-replicate n x)))
    (cases_lt k n)

pub none_taken : (n : ℕ) → IsTaken n (replicate 56 0) 0 n
none_taken n = record {
  is_left = sym (div-one n);
  room = length-replicate {A = ℕ} 56 0;
  low = λ k h. absurd (omega arith);
  high = λ k h. alike 56 k 0;
  some = λ h. absurd (omega arith);
}

-- what is left is cut by one digit
left_more : (n c r : ℕ) → r ≡ n / 10 ^ c → r / 10 ≡ n / 10 ^ (c + 1)
left_more n c r e = ap (λ (x : ℕ). x / 10) e ∙ div-div-eq-div-mul n (10 ^ c) 10 ∙ ap (λ (p : ℕ). n / p) (sym (pow-add 10 c 1))

pub taken_more : (n c r d : ℕ) (digits : List ℕ) → IsTaken n digits c r → 0 < r → c < 56 → d ≡ r % 10
    → IsTaken n (set digits c d) (c + 1) (r / 10)
taken_more n c r d digits taken some within digit = record {
  is_left = left_more n c r taken.is_left;
  room = length-set digits c d ∙ taken.room;
  low = λ k h. ⊎_elim
      (λ (less : k < c). get_or-set_other digits c k d 0 (λ e. omega arith) ∙ taken.low k less)
      (λ (le : c ≤ k). let same : k ≡ c = omega arith in
      rw same (get_or-set_same digits c d 0 (omega (arith, taken.room)) ∙ digit ∙ ap (λ (x : ℕ). x % 10) taken.is_left))
      (cases_lt k c);
  high = λ k h. get_or-set_other digits c k d 0 (λ e. omega arith) ∙ taken.high k (omega arith);
  some = λ h. let same : c + 1 - 1 ≡ c = omega arith in rw (same, ← taken.is_left) some;
}

-- nothing is left of n where it is below the power
none_left : (n c : ℕ) → n / 10 ^ c ≡ 0 → n < 10 ^ c
none_left n c e =
    let within : n < n / 10 ^ c * 10 ^ c + 10 ^ c = lt-div-mul-add (ten_pos c) in
    let short : n < 0 * 10 ^ c + 10 ^ c = rw e at within in omega arith

-- a number of 128 bits has at most 39 digits
pub taken_below : (n c r : ℕ) (digits : List ℕ) → IsTaken n digits c r → n < 2 ^ 128 → 0 < r → c < 39
taken_below n c r digits taken bound some = ⊎_elim
    (λ (less : c < 39). less)
    (λ (le : 39 ≤ c). let none : n / 10 ^ c ≡ 0 = div-eq_of_lt (omega (arith, ten_le 39 c le)) in absurd (omega (arith, taken.is_left)))
    (cases_lt c 39)

-- where nothing is left, every digit is in its place
pub all_taken : (n c : ℕ) (digits : List ℕ) → IsTaken n digits c 0 → (k : ℕ) → get_or digits k 0 ≡ n / 10 ^ k % 10
all_taken n c digits taken k = ⊎_elim
    (λ (less : k < c). taken.low k less)
    (λ (le : c ≤ k). let none : n / 10 ^ k ≡ 0 = div-eq_of_lt (omega (arith, ten_le c k le, none_left n c (sym taken.is_left))) in
    taken.high k le ∙ rw none)
    (cases_lt k c)

at_least : (n k : ℕ) → 0 < n / 10 ^ k → 10 ^ k ≤ n
at_least n k h =
    omega (arith, div-mul-le_self n (10 ^ k), le-mul_of_pos_right {m = n / 10 ^ k} (10 ^ k) h, mul_comm (n / 10 ^ k) (10 ^ k))

-- a number has more than k digits where it is at least ten to the k
longer : (n k : ℕ) → n < 10 ^ 64 → 10 ^ k ≤ n → k < length (decimal n)
longer n k bound le =
    let numeral = decimal_is_IsNumeral_wide n bound in
    let short : n < 10 ^ length (decimal n) = subst (λ (v : ℕ). v < 10 ^ length (decimal n)) numeral.1 (digits_value-lt 10 (decimal n) numeral.0.1) in
    ⊎_elim
    (λ (less : k < length (decimal n)). less)
    (λ (more : length (decimal n) ≤ k). absurd (omega (arith, ten_le (length (decimal n)) k more)))
    (cases_lt k (length (decimal n)))

pub all_counted : (n c : ℕ) (digits : List ℕ) → IsTaken n digits c 0 → n < 2 ^ 128 → max c 1 ≡ digit_count n
unfolding digit_count
all_counted n c digits taken bound =
    let small : n < 10 ^ 64 = omega arith in
    let below : n < 10 ^ c = none_left n c (sym taken.is_left) in
    let within : n < 10 ^ max c 1 = omega (arith, ten_le c (max c 1) (omega arith)) in
    let most : length (decimal n) ≤ max c 1 = length-decimal-le_wide (max c 1) n (omega arith) within small in
    let some : 0 < length (decimal n) = (decimal_is_IsNumeral_wide n small).0.0 in
    ⊎_elim
    (λ (none : c < 1). omega arith)
    (λ (more : 1 ≤ c). let least : c - 1 < length (decimal n) = longer n (c - 1) small (at_least n (c - 1) (taken.some more)) in omega arith)
    (cases_lt c 1)

pub all_short : (n c : ℕ) (digits : List ℕ) → IsTaken n digits c 0 → n < 2 ^ 128 → c ≤ 39
all_short n c digits taken bound = ⊎_elim
    (λ (less : c < 40). omega arith)
    (λ (le : 40 ≤ c). absurd (let least : 10 ^ (c - 1) ≤ n = at_least n (c - 1) (taken.some (omega arith)) in omega (arith, ten_le 39 (c - 1) (omega arith))))
    (cases_lt c 40)
