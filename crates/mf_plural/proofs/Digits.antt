-- The digits of a value.
use Rattle.std.proofs.Common.{◌≡◌, ℕ, zero, suc, ◌+◌, ◌-◌, ◌*◌, ◌^◌, ◌<◌, ◌≤◌, true, List, [], ◌∷◌, length, get_or, take, arith}
use Rattle.std.specs.Char.{digit_value, is_ascii_digit}
use Rattle.std.specs.List.{list_all}
use Rattle.std.specs.Prelude.{◌&&◌, nat_le}
use Rattle.std.specs.Str.Parse.{digits_value}
use Rattle.std.proofs.Math.Nat.{pow-le-pow_right}
use Rattle.std.proofs.lemmas.Bool.{and_parts}
use Rattle.std.proofs.lemmas.Bool.Decides.{nat_tests}
use Rattle.std.proofs.lemmas.Int.Digits.{digits_value_more}
use Rattle.std.proofs.lemmas.Nat.{pow-add}
use Rattle.std.proofs.lemmas.Str.{digit_value_digit}
use Rattle.mf_plural.specs.Grammar.{is_value}

-- a value has at most 18 digits, and nothing else
pub value_parts : (text : List ℕ) → is_value text ≡ true → (length text ≤ 18) × (list_all is_ascii_digit text ≡ true)
value_parts text is =
    let outer = and_parts (nat_le 1 (length text) && nat_le (length text) 18) (list_all is_ascii_digit text) is in
    let short : nat_le (length text) 18 ≡ true = (and_parts (nat_le 1 (length text)) (nat_le (length text) 18) outer.0).1 in
    (grind (arith, nat_tests, short), outer.1)

digit_at : (text : List ℕ) (i : ℕ) → list_all is_ascii_digit text ≡ true → i < length text → is_ascii_digit (get_or text i 0) ≡ true
digit_at [] i each within = absurd (omega (arith, within))
digit_at (c ∷ cs) zero each within = (and_parts (is_ascii_digit c) (list_all is_ascii_digit cs) each).0
digit_at (c ∷ cs) (suc i) each within = digit_at cs i (and_parts (is_ascii_digit c) (list_all is_ascii_digit cs) each).1 (omega (arith, within))

digit_range : (c : ℕ) → is_ascii_digit c ≡ true → (48 ≤ c) × (c ≤ 57)
digit_range c is = (grind (arith, nat_tests, is), grind (arith, nat_tests, is))

-- the digit at an index
pub digit_here : (text : List ℕ) (i : ℕ) → is_value text ≡ true → i < length text
    → (48 ≤ get_or text i 0) × (get_or text i 0 ≤ 57) × (get_or text i 0 - 48 ≡ digit_value (get_or text i 0))
digit_here text i is within =
    let range = digit_range (get_or text i 0) (digit_at text i (value_parts text is).1 within) in
    let value = digit_value_digit (get_or text i 0) range in
    (range.0, range.1, omega (arith, value, range.0))

-- one more digit has room
pub more_room : (text : List ℕ) (i n : ℕ) → is_value text ≡ true → i < length text → n < 10 ^ i → n < 10 ^ 17
more_room text i n is within below =
    let parts = value_parts text is in
    let early : i ≤ 17 = omega (arith, parts.0, within) in
    let most : 10 ^ i ≤ 10 ^ 17 = pow-le-pow_right {n = 10} (omega arith) early in
    omega (arith, below, most)

pub more_below : (i n d : ℕ) → n < 10 ^ i → d < 10 → n * 10 + d < 10 ^ (i + 1)
more_below i n d below small =
    let power : 10 ^ (i + 1) ≡ 10 ^ i * 10 = pow-add 10 i 1 in
    omega (arith, power, below, small)

pub more_value : (text : List ℕ) (i n d : ℕ) → i < length text → n ≡ digits_value 10 (take i text) → d ≡ digit_value (get_or text i 0)
    → n * 10 + d ≡ digits_value 10 (take (i + 1) text)
more_value text i n d within value digit =
    let more = digits_value_more 10 text i within in
    omega (arith, more, value, digit)
