-- A text is one number literal at most, in ASCII; what reading it answers.
use Rattle.std.proofs.Common.{◌≡◌, ℕ, ◌<◌, ◌↔◌, Bool, true, false, List, [], ◌∷◌, ◌++◌, Option, Some, None, Result, Ok, Err, sym, subst, ◌∙◌, ⊎_elim, arith}
use Rattle.std.specs.Prelude.{IfSome, IfNone, IfOk}
use Rattle.std.specs.Option.{ok_or}
use Rattle.std.specs.Str.{IsUtf8, IsAscii, chars}
use Rattle.std.specs.Str.Parse.{AllDigits}
use Rattle.std.proofs.lemmas.Str.{chars-IsAscii, encodes-chars, encodes-IsAscii, IsAscii-append}
use Rattle.std.proofs.lemmas.Str.Ascii.{IsAscii-nil, IsAscii-cons}
use Rattle.std.proofs.lemmas.Fmt.{IsAscii-from_digits}
use Rattle.mf_decimal.specs.declared.decimal.Decimal.{Decimal}
use Rattle.mf_decimal.specs.declared.reading.NumberError.{NumberError}
use Rattle.mf_decimal.specs.declared.reading.NumberError.TheVariants.{NotANumber, TooWide}
use Rattle.mf_decimal.specs.Amount.{IsSame, amount}
use Rattle.mf_decimal.specs.Grammar.{Literal, Spells, SpellsSign, SpellsFraction, SpellsExponentSign, SpellsExponent, IsNumber, IsValue, DecimalOf, IsWide, IsTooWide, literal_amount}
use Rattle.mf_decimal.specs.Parts.{HasDigits}
use Rattle.mf_decimal.proofs.Spelling.{minus_of, whole_of, fraction_of, same_exponent, whole_digits, tail_first, own_tail, leaves_own}
use Rattle.mf_decimal.proofs.Values.{not_wide, some_under}

-- the parts of digits of a literal are digits
pub spelled_digits : (text : List ℕ) (number : Literal) → Spells text number → HasDigits number
spelled_digits text number s = record {
  whole = whole_digits number.whole s.is_whole;
  fraction = fraction_digits s.fraction number.fraction s.is_fraction;
  exponent = exponent_digits s.exponent number.exponent number.exponent_minus s.is_exponent;
}
  where
    fraction_digits : (t f : List ℕ) → SpellsFraction t f → AllDigits 10 f
    fraction_digits t [] h = tt
    fraction_digits t (d ∷ ds) h = h.0

    exponent_digits : (t e : List ℕ) (m : Bool) → SpellsExponent t e m → AllDigits 10 e
    exponent_digits t [] m h = tt
    exponent_digits t (d ∷ ds) m h = h.all_digits

-- a number literal is ASCII
pub spelled_ascii : (text : List ℕ) (number : Literal) → Spells text number → IsAscii text
spelled_ascii text number s =
    let exponent = exponent_ascii s.exponent number.exponent number.exponent_minus s.is_exponent in
    let fraction = fraction_ascii s.fraction number.fraction s.is_fraction in
    let whole = IsAscii-from_digits number.whole (whole_digits number.whole s.is_whole) in
    let sign = sign_ascii s.sign number.minus s.is_sign in
    subst IsAscii (sym s.parts)
    (IsAscii-append s.sign (number.whole ++ (s.fraction ++ s.exponent)) sign
    (IsAscii-append number.whole (s.fraction ++ s.exponent) whole (IsAscii-append s.fraction s.exponent fraction exponent)))
  where
    one_ascii : (b : ℕ) → b < 128 → IsAscii (b ∷ [])
    one_ascii b small = IsAscii-cons b [] small IsAscii-nil

    sign_ascii : (t : List ℕ) (m : Bool) → SpellsSign t m → IsAscii t
    sign_ascii t true h = subst IsAscii (sym h) (one_ascii 45 (omega arith))
    sign_ascii t false h = subst IsAscii (sym h) IsAscii-nil

    fraction_ascii : (t f : List ℕ) → SpellsFraction t f → IsAscii t
    fraction_ascii t [] h = subst IsAscii (sym h) IsAscii-nil
    fraction_ascii t (d ∷ ds) h = subst IsAscii (sym h.1) (IsAscii-cons 46 (d ∷ ds) (omega arith) (IsAscii-from_digits (d ∷ ds) h.0))

    exponent_sign_ascii : (t : List ℕ) (m : Bool) → SpellsExponentSign t m → IsAscii t
    exponent_sign_ascii t true h = subst IsAscii (sym h) (one_ascii 45 (omega arith))
    exponent_sign_ascii t false h =
        ⊎_elim (λ (none : t ≡ []). subst IsAscii (sym none) IsAscii-nil) (λ (plus : t ≡ 43 ∷ []). subst IsAscii (sym plus) (one_ascii 43 (omega arith))) h

    exponent_ascii : (t e : List ℕ) (m : Bool) → SpellsExponent t e m → IsAscii t
    exponent_ascii t [] m h = subst IsAscii (sym h.0) IsAscii-nil
    exponent_ascii t (d ∷ ds) m h =
        let small : h.mark < 128 = ⊎_elim (λ (e : h.mark ≡ 101). omega arith) (λ (e : h.mark ≡ 69). omega arith) h.is_mark in
        subst IsAscii (sym h.parts)
        (IsAscii-cons h.mark (h.sign ++ (d ∷ ds)) small
        (IsAscii-append h.sign (d ∷ ds) (exponent_sign_ascii h.sign m h.is_sign) (IsAscii-from_digits (d ∷ ds) h.all_digits)))

-- so its characters are its bytes
pub same_chars : (bytes : List ℕ) → IsUtf8 bytes → IsNumber bytes → chars bytes ≡ bytes
same_chars bytes utf8 n = chars-IsAscii bytes (spelled_ascii bytes n.number n.spelled)

pub same_bytes : (bytes : List ℕ) → IsUtf8 bytes → IsNumber (chars bytes) → chars bytes ≡ bytes
same_bytes bytes utf8 n = sym (encodes-IsAscii (chars bytes) (spelled_ascii (chars bytes) n.number n.spelled)) ∙ encodes-chars bytes utf8

-- a text is one literal at most
pub same_literal : (text : List ℕ) (m n : Literal) → Spells text m → Spells text n → m ≡ n
same_literal text m n s t =
    let minus = sym (minus_of text m s) ∙ minus_of text n t in
    let first = own_tail text m s in
    let whole = whole_of text m.whole (s.fraction ++ s.exponent) n t first (whole_digits m.whole s.is_whole)
    (tail_first s.fraction s.exponent m.fraction m.exponent m.exponent_minus s.is_fraction s.is_exponent) in
    let fraction = fraction_of (s.fraction ++ s.exponent) t.fraction t.exponent n.fraction n.exponent m.fraction s.exponent n.exponent_minus t.is_fraction t.is_exponent whole.1
    (leaves_own s.fraction s.exponent m.fraction m.exponent m.exponent_minus s.is_fraction s.is_exponent) in
    let P : List ℕ → Type 0 = λ e. SpellsExponent e n.exponent n.exponent_minus in
    let exponent = same_exponent s.exponent m.exponent n.exponent m.exponent_minus n.exponent_minus s.is_exponent (subst P (sym fraction.1) t.is_exponent) in
    one m.minus n.minus m.whole n.whole m.fraction n.fraction m.exponent_minus n.exponent_minus m.exponent n.exponent minus whole.0 fraction.0 exponent.1 exponent.0
  where
    one : (a a' : Bool) (b b' c c' : List ℕ) (d d' : Bool) (e e' : List ℕ) → a ≡ a' → b ≡ b' → c ≡ c' → d ≡ d' → e ≡ e' → (let x : Literal = record { minus = a; whole = b; fraction = c; exponent_minus = d; exponent = e } in x) ≡ (let x : Literal = record { minus = a'; whole = b'; fraction = c'; exponent_minus = d'; exponent = e' } in x)
    one a a' b b' c c' d d' e e' p q r s t = cc

-- a text that has a decimal is not too wide
pub not_both : (text : List ℕ) (number : Literal) (x : Decimal) → Spells text number → IsValue number x → IsTooWide text → ⊥
not_both text number x s v w =
    let P : Literal → Type 0 = λ n. IsSame (amount x) (literal_amount n) in
    not_wide x (literal_amount w.number) (some_under w.number) (subst P (same_literal text number w.number s w.spelled) v.same) w.wide

-- what reading the literal answers
pub read_value : (text : List ℕ) (number : Literal) (r : Option Decimal) (result : Result Decimal NumberError) → Spells text number → IfSome r (λ x. IsValue number x) → result ≡ ok_or r TooWide → IfOk result (λ x. DecimalOf text x)
read_value text number None result s v e = let P : Result Decimal NumberError → Type 0 = λ a. IfOk a (λ x. DecimalOf text x) in subst P (sym e) tt
read_value text number (Some x) result s v e = let P : Result Decimal NumberError → Type 0 = λ a. IfOk a (λ x. DecimalOf text x) in subst P (sym e) (record { number = number; spelled = s; value = v })

pub read_number : (text : List ℕ) (number : Literal) (r : Option Decimal) (result : Result Decimal NumberError) → Spells text number → result ≡ ok_or r TooWide → (result ≡ Err NotANumber) ↔ (¬ IsNumber text)
read_number text number None result s e = (λ h. absurd (clash (sym e ∙ h)), λ none. absurd (none (record { number = number; spelled = s })))
  where
    clash : (let a : Result Decimal NumberError = Err TooWide in a) ≡ Err NotANumber → ⊥
    clash h = cc
read_number text number (Some x) result s e = (λ h. absurd (clash x (sym e ∙ h)), λ none. absurd (none (record { number = number; spelled = s })))
  where
    clash : (x : Decimal) → (let a : Result Decimal NumberError = Ok x in a) ≡ Err NotANumber → ⊥
    clash x h = cc

pub read_wide : (text : List ℕ) (number : Literal) (r : Option Decimal) (result : Result Decimal NumberError) → Spells text number → IfSome r (λ x. IsValue number x) → IfNone r (IsWide (literal_amount number)) → result ≡ ok_or r TooWide → (result ≡ Err TooWide) ↔ IsTooWide text
read_wide text number None result s v w e = (λ h. record { number = number; spelled = s; wide = w }, λ wide. e)
read_wide text number (Some x) result s v w e = (λ h. absurd (clash x (sym e ∙ h)), λ wide. absurd (not_both text number x s v wide))
  where
    clash : (x : Decimal) → (let a : Result Decimal NumberError = Ok x in a) ≡ Err TooWide → ⊥
    clash x h = cc

-- what holds of a text's bytes holds of its characters
pub no_number : (bytes text : List ℕ) → bytes ≡ text → IsUtf8 text → (¬ IsNumber bytes) → ¬ IsNumber (chars text)
no_number bytes text e utf8 refused n = refused (subst IsNumber (same_bytes text utf8 n ∙ sym e) n)

pub spelled_chars : (bytes text : List ℕ) (number : Literal) → bytes ≡ text → IsUtf8 text → Spells bytes number → Spells (chars text) number
spelled_chars bytes text number e utf8 s =
    let P : List ℕ → Type 0 = λ t. Spells t number in
    let same = same_chars text utf8 (subst IsNumber e (record { number = number; spelled = s })) in
    subst P (e ∙ sym same) s
