-- The digits of numbers, however great these are.
use Rattle.std.proofs.Common.{◌≡◌, ◌∙◌, ◌⊎◌, inl, inr, ℕ, zero, suc, ◌+◌, ◌*◌, ◌/◌, ◌%◌, ◌<◌, ◌≤◌, ◌^◌, ◌==◌, Bool, true, false, nat_lt, if◌then◌else◌, List, [], ◌∷◌, ◌++◌, length, refl, ap, ap₂, sym, arith}
use Rattle.std.specs.Fmt.{decimal, digit_glyph, digits, digits_onto}
use Rattle.std.specs.Str.Parse.{digits_value}
use Rattle.std.proofs.Math.Nat.{le-div_iff_mul-le, pow-suc}
use Rattle.std.proofs.lemmas.Bool.{cases_lt, ne_eqb}
use Rattle.std.proofs.lemmas.Fmt.{decimal_is_IsNumeral, decimal_is_IsNumeral_wide, length-decimal-le}
use Rattle.mf_transcript.proofs.Written.{same_head, same_tail}

-- the digits of a number, however great it is, are bytes from 48 on
abbrev pub AreDigits : List ℕ → Type 0
AreDigits [] = Unit {0}
AreDigits (d ∷ ds) = (48 ≤ d) × AreDigits ds

glyph_from : (b : Bool) (d : ℕ) → 48 ≤ (if b then 48 + d else (if false then 55 + d else 87 + d))
glyph_from true d = omega arith
glyph_from false d = omega arith

onto_digits : (k n : ℕ) (acc : List ℕ) → AreDigits acc → AreDigits (digits_onto k 10 false n acc)
onto_digits zero n acc all = all
onto_digits (suc k) n acc all =
    let more : AreDigits (digit_glyph false (n % 10) ∷ acc) = (glyph_from (nat_lt (n % 10) 10) (n % 10), all) in
    by (n / 10 == 0) more (onto_digits k (n / 10) (digit_glyph false (n % 10) ∷ acc) more)
  where
    by : (b : Bool) → AreDigits (digit_glyph false (n % 10) ∷ acc) → AreDigits (digits_onto k 10 false (n / 10) (digit_glyph false (n % 10) ∷ acc))
        → AreDigits (if b then digit_glyph false (n % 10) ∷ acc else digits_onto k 10 false (n / 10) (digit_glyph false (n % 10) ∷ acc))
    by true one more = one
    by false one more = more

pub decimal_digits : (n : ℕ) → AreDigits (decimal n)
unfolding digits
decimal_digits n = onto_digits 64 n [] tt

-- where digits end at a comma on both sides, they are the same, and so is what follows
pub same_parts : (ds es xs ys : List ℕ) → AreDigits ds → AreDigits es → ds ++ 44 ∷ xs ≡ es ++ 44 ∷ ys → (ds ≡ es) × (xs ≡ ys)
same_parts [] [] xs ys one other same = (refl, same_tail 44 44 xs ys same)
same_parts [] (e ∷ es) xs ys one other same = absurd (omega (arith, other.0, same_head 44 e xs (es ++ 44 ∷ ys) same))
same_parts (d ∷ ds) [] xs ys one other same = absurd (omega (arith, one.0, same_head d 44 (ds ++ 44 ∷ xs) ys same))
same_parts (d ∷ ds) (e ∷ es) xs ys one other same =
    let rest = same_parts ds es xs ys one.1 other.1 (same_tail d e (ds ++ 44 ∷ xs) (es ++ 44 ∷ ys) same) in
    (ap₂ (λ b bs. b ∷ bs) (same_head d e (ds ++ 44 ∷ xs) (es ++ 44 ∷ ys) same) rest.0, rest.1)

power_some : (k : ℕ) → 0 < 10 ^ k
power_some zero = omega arith
power_some (suc k) = omega (arith, pow-suc 10 k, power_some k)

-- a great number has 64 digits
onto_length : (k n : ℕ) (acc : List ℕ) → 10 ^ k ≤ n → length (digits_onto (suc k) 10 false n acc) ≡ suc k + length acc
onto_length zero n acc most = by (n / 10 == 0)
  where
    by : (b : Bool) → length (if b then digit_glyph false (n % 10) ∷ acc else digit_glyph false (n % 10) ∷ acc) ≡ 1 + length acc
    by true = omega arith
    by false = omega arith
onto_length (suc k) n acc most =
    let power : 10 ^ suc k ≡ 10 ^ k * 10 = pow-suc 10 k in
    let times : 10 ^ k * 10 ≤ n = omega (arith, power, most) in
    let great : 10 ^ k ≤ n / 10 = (le-div_iff_mul-le {k = 10} {x = 10 ^ k} {y = n} (omega arith)).1 times in
    let some : n / 10 ≡ 0 → ⊥ = λ none. omega (arith, none, great, power_some k) in
    rw (ne_eqb (n / 10) 0 some) (onto_length k (n / 10) (digit_glyph false (n % 10) ∷ acc) great ∙ omega arith)

pub decimal_long : (n : ℕ) → 10 ^ 63 ≤ n → length (decimal n) ≡ 64
unfolding digits
decimal_long n most = onto_length 63 n [] most ∙ omega arith

-- the digits of a number of 64 bits are those of no other
pub decimal_once : (m n : ℕ) → m < 2 ^ 64 → decimal m ≡ decimal n → m ≡ n
decimal_once m n small same = by (cases_lt n (10 ^ 63))
  where
    by : (n < 10 ^ 63) ⊎ (10 ^ 63 ≤ n) → m ≡ n
    by (inl less) = sym (decimal_is_IsNumeral m small).1 ∙ ap (digits_value 10) same ∙ (decimal_is_IsNumeral_wide n (omega (arith, less))).1
    by (inr most) = absurd (omega (arith, ap length same, decimal_long n most, length-decimal-le 20 m (omega arith) (omega (arith, small)) small))
