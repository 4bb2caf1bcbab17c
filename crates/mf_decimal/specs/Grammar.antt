-- Number literals and the decimal that one stands for (Unicode TS 35, Part 9, the production number-literal).
use Rattle.std.specs.Prelude.{◌≡◌, ◌⊎◌, ℕ, ◌+◌, ◌*◌, ◌%◌, ◌^◌, ◌<◌, ◌≤◌, ◌↔◌, Bool, true, false, List, [], ◌∷◌, ◌++◌, length, IsTrue, if◌then◌else◌}
use Rattle.std.specs.Str.Parse.{AllDigits, digits_value}
use Rattle.mf_decimal.specs.declared.decimal.Decimal.{Decimal}
use Rattle.mf_decimal.specs.Amount.{Amount, IsSame, amount, shifted}

-- the parts of a number literal: its digits before the point, after the point and in the exponent, and the two signs
pub record Literal : Type 0 where
  pub minus : Bool
  pub whole : List ℕ
  pub fraction : List ℕ
  pub exponent_minus : Bool
  pub exponent : List ℕ

-- ["-"]
abbrev pub SpellsSign : List ℕ → Bool → Type 0
SpellsSign text true = text ≡ 45 ∷ []
SpellsSign text false = text ≡ []

-- "0" / (%x31-39 *DIGIT)
abbrev pub SpellsWhole : List ℕ → Type 0
SpellsWhole [] = ⊥
SpellsWhole (d ∷ ds) = AllDigits 10 (d ∷ ds) × (d ≡ 48 → ds ≡ [])

-- ["." 1*DIGIT]
abbrev pub SpellsFraction : List ℕ → List ℕ → Type 0
SpellsFraction text [] = text ≡ []
SpellsFraction text (d ∷ ds) = AllDigits 10 (d ∷ ds) × (text ≡ 46 ∷ d ∷ ds)

-- ["-" / "+"]
abbrev pub SpellsExponentSign : List ℕ → Bool → Type 0
SpellsExponentSign text true = text ≡ 45 ∷ []
SpellsExponentSign text false = (text ≡ []) ⊎ (text ≡ 43 ∷ [])

-- ("e" / "E") ["-" / "+"] 1*DIGIT
pub record SpellsPower (text digits : List ℕ) (minus : Bool) : Type 0 where
  pub mark : ℕ
  pub sign : List ℕ
  pub parts : text ≡ mark ∷ (sign ++ digits)
  pub is_mark : (mark ≡ 101) ⊎ (mark ≡ 69)
  pub is_sign : SpellsExponentSign sign minus
  pub all_digits : AllDigits 10 digits

-- [("e" / "E") ["-" / "+"] 1*DIGIT]
abbrev pub SpellsExponent : List ℕ → List ℕ → Bool → Type 0
SpellsExponent text [] minus = (text ≡ []) × (minus ≡ false)
SpellsExponent text (d ∷ ds) minus = SpellsPower text (d ∷ ds) minus

-- the text is the four parts of the number literal, one after the other
pub record Spells (text : List ℕ) (number : Literal) : Type 0 where
  pub sign : List ℕ
  pub fraction : List ℕ
  pub exponent : List ℕ
  pub parts : text ≡ sign ++ (number.whole ++ (fraction ++ exponent))
  pub is_sign : SpellsSign sign number.minus
  pub is_whole : SpellsWhole number.whole
  pub is_fraction : SpellsFraction fraction number.fraction
  pub is_exponent : SpellsExponent exponent number.exponent number.exponent_minus

-- the text is a number literal
pub record IsNumber (text : List ℕ) : Type 0 where
  pub number : Literal
  pub spelled : Spells text number

-- the power of ten that an exponent multiplies by, and the one that it divides by
abbrev pub raised_by : Literal → ℕ
raised_by number = if number.exponent_minus then 0 else digits_value 10 number.exponent

abbrev pub lowered_by : Literal → ℕ
lowered_by number = if number.exponent_minus then digits_value 10 number.exponent else 0

-- the value by place, without its sign: all digits as one whole number, moved by the exponent and the fraction's length
abbrev pub literal_amount : Literal → Amount
literal_amount number =
    shifted (digits_value 10 (number.whole ++ number.fraction) * 10 ^ raised_by number) (length number.fraction + lowered_by number)

-- x has the literal's value; a zero has no sign
pub record IsValue (number : Literal) (x : Decimal) : Type 0 where
  pub same : IsSame (amount x) (literal_amount number)
  pub sign : IsTrue x.negative ↔ (IsTrue number.minus × (0 < x.coefficient))

-- the text is a number literal whose value is the decimal x
pub record DecimalOf (text : List ℕ) (x : Decimal) : Type 0 where
  pub number : Literal
  pub spelled : Spells text number
  pub value : IsValue number x

-- the amount is coefficient over ten to the scale, with no trailing zeros in the fraction
pub record IsPlain (x : Amount) (coefficient scale : ℕ) : Type 0 where
  pub same : IsSame (shifted coefficient scale) x
  pub short : 0 < scale → 0 < coefficient % 10

-- the plain form of the amount has more than 36 digits, or a scale past 36
pub record IsWide (x : Amount) : Type 0 where
  pub coefficient : ℕ
  pub scale : ℕ
  pub plain : IsPlain x coefficient scale
  pub wide : (10 ^ 36 ≤ coefficient) ⊎ (36 < scale)

-- the text is a number literal that is too wide for a decimal
pub record IsTooWide (text : List ℕ) : Type 0 where
  pub number : Literal
  pub spelled : Spells text number
  pub wide : IsWide (literal_amount number)
