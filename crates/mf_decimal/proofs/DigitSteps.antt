-- Digits read one after the other.
use Rattle.std.proofs.Common.{◌≡◌, ℕ, zero, suc, ◌+◌, ◌-◌, ◌*◌, ◌^◌, ◌<◌, ◌≤◌, ◌%◌, List, [], ◌∷◌, ◌++◌, length, get_or, take, drop, refl, sym, ap, ◌∙◌, arith}
use Rattle.std.specs.Char.{digit_value}
use Rattle.std.specs.Str.Parse.{AllDigits, digits_value, digits_value_after}
use Rattle.std.proofs.Math.Nat.{mul-le-mul, add-mul, pow-suc}
use Rattle.std.proofs.lemmas.Nat.{mod-mul-add}
use Rattle.std.proofs.lemmas.Int.Digits.{digits_value_more, digits_value-lt}
use Rattle.std.proofs.lemmas.Str.Parse.{digit_at}
use Rattle.std.proofs.lemmas.Str.{digit_value_digit}
use Rattle.std.proofs.lemmas.List.{take-append-drop, length-drop}
use Rattle.mf_decimal.specs.Significand.{IsLong}
use Rattle.mf_decimal.proofs.Tens.{ten_le, ten_add, ten_more, ten_sum}

-- a zero more after no digits, and after some
pub none_more : (n z z' d : ℕ) → d ≡ 0 → n ≡ 0 → n * 10 ^ z' ≡ n * 10 ^ z * 10 + d
none_more n z z' d e none = rw (none, e) (omega arith)

pub zeros_more : (n z z' d : ℕ) → d ≡ 0 → z' ≡ z + 1 → n * 10 ^ z' ≡ n * 10 ^ z * 10 + d
zeros_more n z z' d e more = rw (e, more, ten_more z) (omega arith)

-- a 37th digit
pub long_by_zeros : (n z : ℕ) → 35 < z → (n ≡ 0 → z ≡ 0) → 10 ^ 35 ≤ n * 10 ^ z
long_by_zeros zero z far none = absurd (omega (arith, none refl))
long_by_zeros (suc m) z far none =
    let at_least = mul-le-mul {n₁ = 1} {m₁ = 10 ^ 35} {n₂ = suc m} {m₂ = 10 ^ z} (omega arith) (ten_le 35 z (omega arith)) in
    omega arith

pub long_by_digits : (n z : ℕ) → z ≤ 35 → 10 ^ (35 - z) ≤ n → 10 ^ 35 ≤ n * 10 ^ z
long_by_digits n z near long =
    let at_least = mul-le-mul {n₁ = 10 ^ (35 - z)} {m₁ = 10 ^ z} {n₂ = n} {m₂ = 10 ^ z} long (omega arith) in
    let power = ten_sum (35 - z) z 35 (omega arith) in
    omega arith

-- one digit more fits
pub digit_fits : (n z d p : ℕ) → z ≤ 35 → n < 10 ^ (35 - z) → d < 10 → p ≡ 10 ^ (z + 1) → n * p + d < 10 ^ 36
digit_fits n z d p near short small e =
    let next = mul-le-mul {n₁ = n + 1} {m₁ = p} {n₂ = 10 ^ (35 - z)} {m₂ = p} (omega arith) (omega arith) in
    let power : 10 ^ (35 - z) * p ≡ 10 ^ 36 = rw e (ten_sum (35 - z) (z + 1) 36 (omega arith)) in
    let room : 10 ≤ p = rw e (ten_le 1 (z + 1) (omega arith)) in
    omega (arith, add-mul n 1 p)

pub digit_after : (n z d p : ℕ) → p ≡ 10 ^ (z + 1) → n * p + d ≡ n * 10 ^ z * 10 + d
digit_after n z d p e = rw (e, ten_more z) (omega arith)

pub last_digit : (m d : ℕ) → d < 10 → (m * 10 + d) % 10 ≡ d
last_digit m d small = mod-mul-add m 10 d small

one_digit : (n d p q v a b : ℕ) → q ≡ p * 10 → a ≡ (n * 10 + d) * p + v → b ≡ (0 * 10 + d) * p + v → a ≡ n * q + b
one_digit n d p q v a b e left right = rw e (omega arith)

-- digits after those of n
pub after_number : (n : ℕ) (ds : List ℕ) → digits_value_after 10 n ds ≡ n * 10 ^ length ds + digits_value 10 ds
after_number n [] = omega arith
after_number n (c ∷ cs) =
    one_digit n (digit_value c) (10 ^ length cs) (10 ^ suc (length cs)) (digits_value 10 cs) _ _
    (pow-suc 10 (length cs)) (after_number (n * 10 + digit_value c) cs) (after_number (0 * 10 + digit_value c) cs)

after_append : (n : ℕ) (xs ys : List ℕ) → digits_value_after 10 n (xs ++ ys) ≡ digits_value_after 10 (digits_value_after 10 n xs) ys
after_append n [] ys = refl
after_append n (c ∷ cs) ys = after_append (n * 10 + digit_value c) cs ys

pub digits_append : (xs ys : List ℕ) → digits_value 10 (xs ++ ys) ≡ digits_value 10 xs * 10 ^ length ys + digits_value 10 ys
digits_append xs ys = after_append 0 xs ys ∙ after_number (digits_value 10 xs) ys

pub all_dropped : (k : ℕ) (ds : List ℕ) → AllDigits 10 ds → AllDigits 10 (drop k ds)
all_dropped zero ds all = all
all_dropped (suc k) [] all = all
all_dropped (suc k) (d ∷ ds) all = all_dropped k ds all.1

-- the digits of a text up to an index, that at the index, and those past it
one_more : (w i r n v d f x : ℕ) → n ≡ i + 1 + r → v ≡ w * 10 ^ i + f → x ≡ (f * 10 + d) * 10 ^ r + 0 → w * 10 ^ n + x ≡ (v * 10 + d) * 10 ^ r
one_more w i r n v d f x e value all =
    let power : 10 ^ n ≡ 10 ^ i * 10 * 10 ^ r = ap (λ (k : ℕ). 10 ^ k) e ∙ ten_add (i + 1) r ∙ ap (λ (k : ℕ). k * 10 ^ r) (ten_more i) in
    rw (power, value, all) (omega arith)

-- a 37th digit that is no zero
pub long_here : (w v d i : ℕ) (bytes : List ℕ) → AllDigits 10 bytes → i < length bytes → v ≡ w * 10 ^ i + digits_value 10 (take i bytes) → d ≡ digit_value (get_or bytes i 0) → d < 10 → 10 ^ 35 ≤ v → 0 < d → IsLong (w * 10 ^ length bytes + digits_value 10 bytes)
long_here w v d i bytes all within value is small wide some =
    let r = length bytes - (i + 1) in
    let rest = drop (i + 1) bytes in
    let len : length rest ≡ r = length-drop (i + 1) bytes in
    let split : digits_value 10 bytes ≡ digits_value 10 (take (i + 1) bytes) * 10 ^ length rest + digits_value 10 rest =
    ap (digits_value 10) (sym (take-append-drop (i + 1) bytes)) ∙ digits_append (take (i + 1) bytes) rest in
    let front : digits_value 10 (take (i + 1) bytes) ≡ digits_value 10 (take i bytes) * 10 + d =
    digits_value_more 10 bytes i within ∙ ap (λ (x : ℕ). digits_value 10 (take i bytes) * 10 + x) (sym is) in
    let whole = one_more w i r (length bytes) v d (digits_value 10 (take i bytes)) _ (omega arith) value refl in
    record {
      front = v * 10 + d;
      rest_len = length rest;
      rest = digits_value 10 rest;
      parts = rw (split, front, len) (omega (arith, whole));
      short = digits_value-lt 10 rest (all_dropped (i + 1) bytes all);
      long = omega arith;
      last = rw (last_digit v d small) some;
    }

-- one more digit at an index
pub more_read : (w v v' d i : ℕ) (bytes : List ℕ) → i < length bytes → v ≡ w * 10 ^ i + digits_value 10 (take i bytes) → d ≡ digit_value (get_or bytes i 0) → v' ≡ v * 10 + d → v' ≡ w * 10 ^ (i + 1) + digits_value 10 (take (i + 1) bytes)
more_read w v v' d i bytes within value is next =
    let front = digits_value_more 10 bytes i within in
    rw (front, ten_more i) (omega arith)

-- the byte of a digit
pub digit_byte : (bytes : List ℕ) (i : ℕ) → AllDigits 10 bytes → i < length bytes → (48 ≤ get_or bytes i 0) × (get_or bytes i 0 - 48 < 10) × (get_or bytes i 0 - 48 ≡ digit_value (get_or bytes i 0))
digit_byte bytes i all within =
    let range = digit_at bytes i all within in
    let value = digit_value_digit (get_or bytes i 0) range in
    (range.0, omega arith, omega arith)
