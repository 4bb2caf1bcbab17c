-- The one value that the definitions of decimals name (mf_decimal, Literal, Rounding and Whole): each is a relation, and it
-- is proved there that it names a value, and one alone.
use Rattle.std.specs.Prelude.{ℕ, List, Bool, true, false, Option, Result, Ok, Err, ◌⊎◌}
use Rattle.std.specs.Result.{result_ok}
use Rattle.std.proofs.Common.{inl, inr}
use Rattle.mf_decimal.specs.Grammar.{IsNumber, IsTooWide}
use Rattle.mf_decimal.specs.Rounding.{IsInRange}
use Rattle.mf_decimal.specs.declared.decimal.Decimal.{Decimal}
use Rattle.mf_decimal.specs.declared.reading.NumberError.{NumberError}
use Rattle.mf_decimal.specs.declared.reading.NumberError.TheVariants.{NotANumber, TooWide}
use Rattle.mf_decimal.specs.declared.shown.Shown.{Shown}
use Rattle.mf_decimal.specs.declared.shown.Digits.{Digits}
use Rattle.mf_decimal.proofs.ReadingExists.{Found, reading}
use Rattle.mf_decimal.proofs.RoundingExists.{rounding, cutting, range_or_not, no_digits_shown}

-- the decimal whose number literal the text is, or that it is no number literal, or that it is one which is too wide
abbrev pub read_by : {text : List ℕ} → Found text ⊎ (IsTooWide text ⊎ (IsNumber text → ⊥)) → Result Decimal NumberError
read_by (inl found) = Ok found.decimal
read_by (inr (inl wide)) = Err TooWide
read_by (inr (inr none)) = Err NotANumber

unfoldable pub read : List ℕ → Result Decimal NumberError
read text = read_by (reading text)

-- the decimal of a text, if it has one
abbrev pub number_of : List ℕ → Option Decimal
number_of text = result_ok (read text)

-- whether the text is a number literal, which may be too wide
abbrev pub is_literal : Result Decimal NumberError → Bool
is_literal (Ok x) = true
is_literal (Err TooWide) = true
is_literal (Err NotANumber) = false

abbrev pub is_number : List ℕ → Bool
is_number text = is_literal (read text)

-- x rounded to digits that are in their ranges, and shown in them
abbrev pub round_by : (x : Decimal) (digits : Digits) → IsInRange digits ⊎ (IsInRange digits → ⊥) → Shown
round_by x digits (inl range) = (rounding x digits range).shown
round_by x digits (inr none) = no_digits_shown

unfoldable pub round : Decimal → Digits → Shown
round x digits = round_by x digits (range_or_not digits)

-- x cut toward zero
unfoldable pub cut : Decimal → Decimal
cut x = (cutting x).whole
