-- Laws of the definitions.
use Rattle.std.specs.Prelude.{◌≡◌, ℕ, List}
use Rattle.mf_decimal.specs.declared.decimal.Decimal.{Decimal}
use Rattle.mf_decimal.specs.declared.shown.Shown.{Shown}
use Rattle.mf_decimal.specs.declared.shown.Digits.{Digits}
use Rattle.mf_decimal.specs.Grammar.{DecimalOf, IsTooWide}
use Rattle.mf_decimal.specs.Rounding.{Rounds}
use Rattle.mf_decimal.specs.Text.{exact_text}

-- there is one shown number that a decimal is rounded to
abbrev pub RoundsToOne : Type 0
RoundsToOne = (x : Decimal) (digits : Digits) (y z : Shown) → Rounds x digits y → Rounds x digits z → y ≡ z

-- a text has one decimal at most
abbrev pub HasOneDecimal : Type 0
HasOneDecimal = (text : List ℕ) (x y : Decimal) → DecimalOf text x → DecimalOf text y → x ≡ y

-- a text that has a decimal is not too wide
abbrev pub IsNotBoth : Type 0
IsNotBoth = (text : List ℕ) (x : Decimal) → DecimalOf text x → ¬ IsTooWide text

-- the exact text of a decimal is a number literal whose value it is
abbrev pub IsReadBack : Type 0
IsReadBack = (x : Decimal) → DecimalOf (exact_text x) x
