-- Where bytes are the digits of a count.
use Rattle.std.proofs.Common.{◌≡◌, ◌∙◌, ℕ, zero, suc, ◌<◌, ◌≤◌, List, [], ◌∷◌, Bool, true, false, cond, Option, Some, None, Result, Ok, Err, length, get_or, ap, sym, arith, refl}
use Rattle.std.specs.Prelude.{◌&&◌, decimal, nat_le, unwrap_or}
use Rattle.std.specs.List.{slice_get}
use Rattle.std.specs.Str.{bytes_eq}
use Rattle.std.specs.Cmp.Lexicographic.{bytes_decides}
use Rattle.std.specs.Str.Parse.{AllDigits, digits_value, ParsesUnsigned}
use Rattle.std.proofs.lemmas.Bool.{and_from, and_parts, le-leb, leb-true}
use Rattle.std.proofs.lemmas.Fmt.{decimal-digits_value, decimal_digit, decimal_is_IsNumeral, first_decimal, parse-decimal}
use Rattle.std.proofs.lemmas.Result.{OkIff-at_ok}
use Rattle.std.proofs.lemmas.Str.Parse.{IsNumeralModel, numerals_by_value, parse_plain, tells_digits}
use Rattle.mf2d.specs.Commands.{count_of, count_spelled}

digits_test : IsNumeralModel (AllDigits 10) (digits_value 10)
digits_test = numerals_by_value (AllDigits 10) tells_digits

-- the first byte, where there is one
first : (l : List ℕ) (default : ℕ) → 0 < length l → get_or l 0 default ≡ get_or l 0 0
first [] default some = absurd (omega arith)
first (byte ∷ bytes) default some = refl

pub first_is : (l : List ℕ) (item : Option ℕ) → item ≡ slice_get l 0 → unwrap_or item 48 ≡ get_or l 0 48
first_is [] item e = ap (λ (o : Option ℕ). unwrap_or o 48) e
first_is (byte ∷ bytes) item e = ap (λ (o : Option ℕ). unwrap_or o 48) e

some_first : (l : List ℕ) → 48 < get_or l 0 48 → 0 < length l
some_first [] above = absurd (omega arith)
some_first (byte ∷ bytes) above = omega arith

module _ (top : ℕ) (fits : top < 4294967296) where
  abbrev test : ℕ → List ℕ → Bool
  test n digits = bytes_eq digits (decimal n) && (nat_le 1 n && nat_le n top)

  by_test : (n : ℕ) (digits : List ℕ) (b : Bool) → test n digits ≡ b → cond b (Some n) None ≡ count_spelled top n digits
  by_test n digits b e = ap (λ (t : Bool). cond t (Some n) None) (sym e)

  value_of : (digits : List ℕ) (n : ℕ) → digits ≡ decimal n → n ≤ top → digits_value 10 digits ≡ n
  value_of digits n e most = ap (digits_value 10) e ∙ (decimal_is_IsNumeral n (omega (arith, fits))).1

  -- the digits of a count spell it
  pub spelled : (digits : List ℕ) (n : ℕ) → digits ≡ decimal n → 1 ≤ n → n ≤ top → Some n ≡ count_of top digits
  spelled digits n e least most =
      by_test n digits true (and_from _ _ ((bytes_decides digits (decimal n)).1 e) (and_from _ _ (le-leb 1 n least) (le-leb n top most)))
      ∙ ap (λ (m : ℕ). count_spelled top m digits) (sym (value_of digits n e most))

  -- bytes that are the digits of no count spell none
  pub unspelled : (digits : List ℕ) → ((n : ℕ) → digits ≡ decimal n → 1 ≤ n → n ≤ top → ⊥) → None ≡ count_of top digits
  unspelled digits none = by (digits_value 10 digits) (test (digits_value 10 digits) digits) refl
    where
      by : (n : ℕ) (b : Bool) → test n digits ≡ b → None ≡ count_spelled top n digits
      by n false e = by_test n digits false e
      by n true e =
          let parts = and_parts _ _ e in
          let bounds = and_parts _ _ parts.1 in
          absurd (none n ((bytes_decides digits (decimal n)).0 parts.0) (leb-true 1 n bounds.0) (leb-true n top bounds.1))

  -- a count begins above a zero
  begins_above : (n : ℕ) → 1 ≤ n → n ≤ top → 48 < get_or (decimal n) 0 48
  begins_above n least most =
      omega (arith, fits, first_decimal n (omega (arith, fits)) (omega (arith, fits)), first (decimal n) 48 (decimal_is_IsNumeral n (omega (arith, fits))).0.0)

  pub no_count_below : (digits : List ℕ) → get_or digits 0 48 ≤ 48 → None ≡ count_of top digits
  no_count_below digits low =
      unspelled digits (λ n e least most. omega (arith, fits, begins_above n least most, ap (λ (l : List ℕ). get_or l 0 48) e))

  module _ {E : Type 0} (digits : List ℕ) (result : Result ℕ E) (parsed : ParsesUnsigned 32 10 digits result) where
    -- what `parse` refuses spells no count
    pub no_count : (error : E) → result ≡ Err error → None ≡ count_of top digits
    no_count error is = unspelled digits (λ n e least most. other error n (sym is ∙ parse-decimal 32 n digits result (omega (arith, fits)) (omega (arith, fits)) e parsed))
      where
        other : (error : E) (n : ℕ) → ◌≡◌ {A = Result ℕ E} (Err error) (Ok n) → ⊥
        other error n e = cc

    -- nor does a number above the most
    pub too_many : (m : ℕ) → result ≡ Ok m → top < m → None ≡ count_of top digits
    too_many m is above = unspelled digits (λ n e least most. other m n (sym is ∙ parse-decimal 32 n digits result (omega (arith, fits)) (omega (arith, fits)) e parsed) above most)
      where
        other : (m n : ℕ) → ◌≡◌ {A = Result ℕ E} (Ok m) (Ok n) → top < m → n ≤ top → ⊥
        other m n e above most = let same : m ≡ n = cc in omega (arith, fits, same)

    -- what `parse` reads is a count where its first byte is above a zero
    pub counts : (m : ℕ) → result ≡ Ok m → 48 < get_or digits 0 48 → m ≤ top → Some m ≡ count_of top digits
    counts m is above most =
        let some = some_first digits above in
        let at = first digits 48 some in
        let read = OkIff-at_ok result _ (digits_value 10 digits) m (parse_plain digits_test 32 digits result parsed (λ e. omega (arith, fits, above, at, e))) is in
        let written : digits ≡ decimal m =
        sym (decimal-digits_value digits_test digits read.0.0 some (λ e. absurd (omega (arith, fits, above, at, e))) (omega (arith, fits, read.0.2))) ∙ ap decimal (sym read.1) in
        spelled digits m written (least m written) most
      where
        least : (m : ℕ) → digits ≡ decimal m → 1 ≤ m
        least zero e = absurd (omega (arith, fits, above, ap (λ (l : List ℕ). get_or l 0 48) (e ∙ decimal_digit 0 (omega (arith, fits)))))
        least (suc m) e = omega (arith, fits)
