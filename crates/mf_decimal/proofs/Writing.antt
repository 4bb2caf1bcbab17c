-- Numbers written in a width.
use Rattle.std.proofs.Common.{◌≡◌, ℕ, zero, suc, ◌+◌, ◌-◌, ◌/◌, ◌%◌, ◌^◌, ◌<◌, ◌≤◌, Bool, List, [], ◌∷◌, ◌++◌, length, replicate, refl, sym, ap, ◌∙◌, ⊎_elim, arith}
use Rattle.std.specs.Fmt.{decimal, styled_decimal, format_spec}
use Rattle.std.proofs.Math.Nat.{pow-suc}
use Rattle.std.proofs.lemmas.Bool.{cases_lt}
use Rattle.std.proofs.lemmas.Nat.{mod_below}
use Rattle.std.proofs.lemmas.Fmt.{decimal_digit, decimal_step_wide}
use Rattle.std.proofs.lemmas.List.{length-append, replicate_more, append_assoc, append-nil}
use Rattle.std.proofs.Padding.{padded_integral_zeros, styled_decimal_is}
use Rattle.mf_decimal.specs.Text.{in_digits, sign_text, fraction_text}
use Rattle.mf_decimal.proofs.Tens.{ten_pos, ten_le}

zero_digits : (k : ℕ) → replicate k 48 ≡ in_digits k 0
zero_digits zero = refl
zero_digits (suc k) = let more : suc k ≡ k + 1 = omega arith in ap (λ (j : ℕ). replicate {A = ℕ} j 48) more ∙ sym (replicate_more k 48) ∙ ap (λ (t : List ℕ). t ++ 48 ∷ []) (zero_digits k)

positive : (k : ℕ) {n : ℕ} → n < 10 ^ suc k → 10 ≤ n → 0 < k
positive zero short more = absurd (omega arith)
positive (suc k) short more = omega arith

-- a number after the zeros that fill its width
pub filled_digits : (k n : ℕ) → n < 10 ^ k → n < 10 ^ 64 → 0 < k → replicate (k - length (decimal n)) 48 ++ decimal n ≡ in_digits k n
filled_digits zero n short fits some = absurd (omega arith)
filled_digits (suc k) n short fits some =
    ⊎_elim
    (λ (one : n < 10).
    let text = decimal_digit n one in
    let front : n / 10 ≡ 0 = omega arith in
    let last : n % 10 ≡ n = omega arith in
    let width : suc k - 1 ≡ k = omega arith in
    rw (text, front, last, width) (ap (λ (t : List ℕ). t ++ (48 + n) ∷ []) (zero_digits k)))
    (λ (more : 10 ≤ n).
    let text = decimal_step_wide n more fits in
    let power = pow-suc 10 k in
    let front = filled_digits k (n / 10) (omega arith) (omega arith) (positive k short more) in
    let width : suc k - length (decimal (n / 10) ++ (48 + n % 10) ∷ []) ≡ k - length (decimal (n / 10)) = omega (arith, length-append (decimal (n / 10)) ((48 + n % 10) ∷ [])) in
    rw (text, width) (sym (append_assoc (replicate (k - length (decimal (n / 10))) 48) (decimal (n / 10)) ((48 + n % 10) ∷ [])) ∙ ap (λ (t : List ℕ). t ++ (48 + n % 10) ∷ []) front))
    (cases_lt n 10)

-- what `{n:0width$}` writes
pub padded_digits : (k n : ℕ) → n < 10 ^ k → n < 10 ^ 64 → 0 < k → styled_decimal (format_spec 32 0 4 k (2 ^ 64 - 1)) n ≡ in_digits k n
padded_digits k n short fits some =
    styled_decimal_is (format_spec 32 0 4 k (2 ^ 64 - 1)) n ∙ padded_integral_zeros (format_spec 32 0 4 k (2 ^ 64 - 1)) (decimal n) refl refl ∙ filled_digits k n short fits some

-- a fraction's text
pub fraction_digits : (k n : ℕ) → n < 10 ^ k → n < 10 ^ 64 → 0 < k → 46 ∷ styled_decimal (format_spec 32 0 4 k (2 ^ 64 - 1)) n ≡ fraction_text k n
fraction_digits zero n short fits some = absurd (omega arith)
fraction_digits (suc k) n short fits some = ap (λ (t : List ℕ). 46 ∷ t) (padded_digits (suc k) n short fits some)

-- the exact text, put together
pub text_whole : (negative : Bool) (c s unit : ℕ) (sign : List ℕ) → s ≡ 0 → sign ≡ sign_text negative → unit ≡ 10 ^ s → sign ++ decimal (c / unit) ≡ sign_text negative ++ (decimal (c / 10 ^ s) ++ fraction_text s (c % 10 ^ s))
text_whole negative c s unit sign whole is unit_is =
    rw (is, unit_is, whole, append-nil (decimal (c / 1))) refl

pub text_fraction : (negative : Bool) (c s unit : ℕ) (sign fraction : List ℕ) → 0 < s → s ≤ 36 → sign ≡ sign_text negative → unit ≡ 10 ^ s → fraction ≡ styled_decimal (format_spec 32 0 4 s (2 ^ 64 - 1)) (c % unit) → sign ++ (decimal (c / unit) ++ (46 ∷ fraction)) ≡ sign_text negative ++ (decimal (c / 10 ^ s) ++ fraction_text s (c % 10 ^ s))
text_fraction negative c s unit sign fraction some near is unit_is written =
    let short = mod_below c (10 ^ s) (ten_pos s) in
    let low = ten_le s 36 near in
    let digits = fraction_digits s (c % 10 ^ s) short (omega arith) some in
    rw (is, written, unit_is) (ap (λ (t : List ℕ). sign_text negative ++ (decimal (c / 10 ^ s) ++ t)) digits)
