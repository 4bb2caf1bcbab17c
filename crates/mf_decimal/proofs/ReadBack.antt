-- The exact text of a decimal is read back.
use Rattle.std.proofs.Common.{◌≡◌, ℕ, zero, suc, ◌+◌, ◌/◌, ◌%◌, ◌^◌, ◌<◌, ◌≤◌, Bool, true, false, List, [], ◌∷◌, ◌++◌, length, get_or, refl, sym, ap, ◌∙◌, ⊎_elim, add-zero, arith}
use Rattle.std.specs.Char.{digit_value}
use Rattle.std.specs.Fmt.{decimal}
use Rattle.std.specs.Str.{chars}
use Rattle.std.specs.Str.Parse.{AllDigits, digits_value}
use Rattle.std.proofs.Math.Nat.{pow-suc, div-le_self}
use Rattle.std.proofs.lemmas.Bool.{cases_lt}
use Rattle.std.proofs.lemmas.Fmt.{decimal_is_IsNumeral_wide, decimal_by_steps_wide}
use Rattle.std.proofs.lemmas.Int.Digits.{digits_push, digits_value_push}
use Rattle.std.proofs.lemmas.List.{append-nil, length-append}
use Rattle.std.proofs.lemmas.Nat.{mod_below, div-add-mod'}
use Rattle.std.proofs.lemmas.Str.{digit_value_digit, chars-IsAscii}
use Rattle.mf_decimal.specs.declared.decimal.Decimal.{Decimal}
use Rattle.mf_decimal.specs.Grammar.{Literal, Spells, SpellsSign, SpellsWhole, SpellsFraction, DecimalOf, IsValue}
use Rattle.mf_decimal.specs.Text.{in_digits, sign_text, fraction_text, exact_text}
use Rattle.mf_decimal.proofs.Tens.{ten_pos}
use Rattle.mf_decimal.proofs.DigitSteps.{digits_append}
use Rattle.mf_decimal.proofs.Texts.{spelled_ascii}

one_digit : (d : ℕ) → d < 10 → digit_value (48 + d) ≡ d
one_digit d small = omega (arith, digit_value_digit (48 + d) (omega arith, omega arith))

-- a number in so many digits
all_digits : (k n : ℕ) → AllDigits 10 (in_digits k n)
all_digits zero n = tt
all_digits (suc k) n =
    let last = one_digit (n % 10) (omega arith) in
    digits_push 10 (in_digits k (n / 10)) (48 + n % 10) (all_digits k (n / 10)) (omega arith)

digits_len : (k n : ℕ) → length (in_digits k n) ≡ k
digits_len zero n = refl
digits_len (suc k) n = length-append (in_digits k (n / 10)) ((48 + n % 10) ∷ []) ∙ rw (digits_len k (n / 10)) (omega arith)

digits_number : (k n : ℕ) → n < 10 ^ k → digits_value 10 (in_digits k n) ≡ n
digits_number zero n short = omega arith
digits_number (suc k) n short =
    let power = pow-suc 10 k in
    let front = digits_number k (n / 10) (omega arith) in
    let last = one_digit (n % 10) (omega arith) in
    digits_value_push 10 (in_digits k (n / 10)) (48 + n % 10) ∙ rw (front, last) (omega arith)

-- whole digits begin with no zero, but for zero itself
record IsPlainWhole (n : ℕ) (ds : List ℕ) : Type 0 where
  some : 0 < length ds
  first : 0 < n → 48 < get_or ds 0 0
  none : n ≡ 0 → ds ≡ 48 ∷ []

first_kept : (ds : List ℕ) (c : ℕ) → 0 < length ds → get_or (ds ++ (c ∷ [])) 0 0 ≡ get_or ds 0 0
first_kept [] c some = absurd (omega arith)
first_kept (d ∷ ds) c some = refl

plain_whole : (n : ℕ) → n < 10 ^ 64 → IsPlainWhole n (decimal n)
plain_whole n fits =
    decimal_by_steps_wide IsPlainWhole
    (λ m small. record { some = omega arith; first = λ some. omega arith; none = λ zero. ap (λ (x : ℕ). (48 + x) ∷ []) zero })
    (λ m ds more front. record {
      some = omega (arith, length-append ds ((48 + m % 10) ∷ []));
      first = λ some. rw (first_kept ds (48 + m % 10) front.some) (front.first (omega arith));
      none = λ zero. absurd (omega arith);
    })
    n fits

spells_whole : (n : ℕ) (ds : List ℕ) → AllDigits 10 ds → IsPlainWhole n ds → SpellsWhole ds
spells_whole n [] all p = absurd (omega (arith, p.some))
spells_whole n (d ∷ ds) all p = (
  all,
  λ zero. ⊎_elim
      (λ (some : 0 < n). absurd (omega (arith, p.first some)))
      (λ (none : n ≤ 0). tail_none d ds (p.none (omega arith)))
      (cases_lt 0 n),
)
  where
    tail_none : (d : ℕ) (ds : List ℕ) → d ∷ ds ≡ 48 ∷ [] → ds ≡ []
    tail_none d ds e = cc

spells_digits : (text digits : List ℕ) → 0 < length digits → AllDigits 10 digits → text ≡ 46 ∷ digits → SpellsFraction text digits
spells_digits text [] some all e = absurd (omega arith)
spells_digits text (d ∷ ds) some all e = (all, e)

spells_fraction : (k n : ℕ) → SpellsFraction (fraction_text k n) (in_digits k n)
spells_fraction zero n = refl
spells_fraction (suc k) n = spells_digits (46 ∷ in_digits (suc k) n) (in_digits (suc k) n) (omega (arith, digits_len (suc k) n)) (all_digits (suc k) n) refl

spells_sign : (negative : Bool) → SpellsSign (sign_text negative) negative
spells_sign true = refl
spells_sign false = refl

-- the parts of the exact text
literal_of : Decimal → Literal
literal_of x = record {
  minus = x.negative;
  whole = decimal (x.coefficient / 10 ^ x.scale);
  fraction = in_digits x.scale (x.coefficient % 10 ^ x.scale);
  exponent_minus = false;
  exponent = [];
}

whole_fits : (c s : ℕ) → c < 10 ^ 36 → c / 10 ^ s < 10 ^ 64
whole_fits c s short = omega (arith, div-le_self c (10 ^ s))

exact_spelled : (x : Decimal) → Spells (exact_text x) (literal_of x)
unfolding literal_of
exact_spelled x =
    let whole = x.coefficient / 10 ^ x.scale in
    let fits = whole_fits x.coefficient x.scale x.short in
    record {
      sign = sign_text x.negative;
      fraction = fraction_text x.scale (x.coefficient % 10 ^ x.scale);
      exponent = [];
      parts = ap (λ (t : List ℕ). sign_text x.negative ++ (decimal whole ++ t)) (sym (append-nil (fraction_text x.scale (x.coefficient % 10 ^ x.scale))));
      is_sign = spells_sign x.negative;
      is_whole = spells_whole whole (decimal whole) (decimal_is_IsNumeral_wide whole fits).0.1 (plain_whole whole fits);
      is_fraction = spells_fraction x.scale (x.coefficient % 10 ^ x.scale);
      is_exponent = (refl, refl);
    }

exact_number : (c s : ℕ) → c < 10 ^ 36 → digits_value 10 (decimal (c / 10 ^ s) ++ in_digits s (c % 10 ^ s)) ≡ c
exact_number c s short =
    let whole = (decimal_is_IsNumeral_wide (c / 10 ^ s) (whole_fits c s short)).1 in
    let fraction = digits_number s (c % 10 ^ s) (mod_below c (10 ^ s) (ten_pos s)) in
    digits_append (decimal (c / 10 ^ s)) (in_digits s (c % 10 ^ s)) ∙ rw (whole, fraction, digits_len s (c % 10 ^ s)) (div-add-mod' c (10 ^ s))

exact_value : (x : Decimal) → IsValue (literal_of x) x
unfolding literal_of
exact_value x = record {
  same = rw (exact_number x.coefficient x.scale x.short, digits_len x.scale (x.coefficient % 10 ^ x.scale), add-zero x.scale) (omega arith);
  sign = (λ below. (below, x.unsigned_zero below), λ both. both.0);
}

pub is_read_back : (x : Decimal) → DecimalOf (exact_text x) x
is_read_back x = record { number = literal_of x; spelled = exact_spelled x; value = exact_value x }

-- the exact text is ASCII, so its characters are its bytes
pub exact_characters : (x : Decimal) (bytes : List ℕ) → bytes ≡ exact_text x → chars bytes ≡ exact_text x
exact_characters x bytes e = ap chars e ∙ chars-IsAscii (exact_text x) (spelled_ascii (exact_text x) (literal_of x) (exact_spelled x))
