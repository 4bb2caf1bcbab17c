-- Laws of the definitions.
use Rattle.std.specs.Prelude.{◌≡◌, ℕ, List, Ok, ◌↔◌}
use Rattle.mf_decimal.specs.declared.decimal.Decimal.{Decimal}
use Rattle.mf_decimal.specs.declared.shown.Digits.{Digits}
use Rattle.mf_decimal.specs.Grammar.{DecimalOf}
use Rattle.mf_decimal.specs.Rounding.{IsInRange, Rounds}
use Rattle.mf_decimal.specs.Whole.{Cuts}
use Rattle.mf_meaning.specs.Numbers.{read, round, cut}

-- a number is cut to its whole part
abbrev pub IsCutting : Type 0
IsCutting = (x : Decimal) → Cuts x (cut x)

-- a number is rounded to the digits that are asked for
abbrev pub IsRounding : Type 0
IsRounding = (x : Decimal) (digits : Digits) → IsInRange digits → Rounds x digits (round x digits)

-- a text is read as the decimal that its number literal stands for
abbrev pub IsReading : Type 0
IsReading = (text : List ℕ) (x : Decimal) → (read text ≡ Ok x) ↔ DecimalOf text x
