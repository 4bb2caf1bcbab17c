-- For private clauses: the parts of a number literal as they are read, one after the other.
use Rattle.std.specs.Prelude.{◌≡◌, ◌≢◌, ℕ, ◌<◌, ◌≤◌, Bool, false, List, [], ◌∷◌, ◌++◌, ⊤, slice_index, if◌then◌else◌, ◌==◌, ◌||◌}
use Rattle.std.specs.Char.{digit_value}
use Rattle.std.specs.Str.Parse.{AllDigits}
use Rattle.mf_decimal.specs.declared.parts.Parts.{Parts}
use Rattle.mf_decimal.specs.Grammar.{Literal, SpellsFraction, SpellsExponent}

-- the byte at k is a digit
abbrev pub IsDigitAt : List ℕ → ℕ → Type 0
IsDigitAt bytes k = (48 ≤ slice_index bytes k) × (slice_index bytes k ≤ 57)

-- no digit stands first
abbrev pub BeginsNoDigit : List ℕ → Type 0
BeginsNoDigit [] = ⊤
BeginsNoDigit (c ∷ cs) = ¬ (digit_value c < 10)

-- 1*DIGIT
abbrev pub IsDigits : List ℕ → Type 0
IsDigits [] = ⊥
IsDigits (d ∷ ds) = AllDigits 10 (d ∷ ds)

-- whether a minus stands first, and what follows it
abbrev pub is_minus : List ℕ → Bool
is_minus [] = false
is_minus (c ∷ cs) = c == 45

abbrev pub after_minus : List ℕ → List ℕ
after_minus [] = []
after_minus (c ∷ cs) = if c == 45 then cs else c ∷ cs

-- what follows the sign of an exponent
abbrev pub after_exponent_sign : List ℕ → List ℕ
after_exponent_sign [] = []
after_exponent_sign (c ∷ cs) = if c == 45 || c == 43 then cs else c ∷ cs

-- no point stands first
abbrev pub BeginsNoPoint : List ℕ → Type 0
BeginsNoPoint [] = ⊤
BeginsNoPoint (c ∷ cs) = c ≢ 46

-- a point stands first, and no digit follows it
abbrev pub IsBarePoint : List ℕ → Type 0
IsBarePoint [] = ⊥
IsBarePoint (c ∷ cs) = (c ≡ 46) × BeginsNoDigit cs

-- the text is a fraction with these digits, as many as there are, and the rest
pub record LeavesFraction (text digits rest : List ℕ) : Type 0 where
  pub fraction : List ℕ
  pub parts : text ≡ fraction ++ rest
  pub spelled : SpellsFraction fraction digits
  pub whole : digits ≡ [] → BeginsNoPoint rest
  pub longest : digits ≢ [] → BeginsNoDigit rest

-- the text is spelled as an exponent
pub record IsExponent (text : List ℕ) : Type 0 where
  pub digits : List ℕ
  pub minus : Bool
  pub spelled : SpellsExponent text digits minus

-- the literal whose parts these are
abbrev pub literal : Parts → Literal
literal parts = record { minus = parts.minus; whole = parts.whole.now; fraction = parts.fraction.now; exponent_minus = parts.exponent_minus; exponent = parts.exponent.now }

-- the three parts of digits are digits
pub record HasDigits (number : Literal) : Type 0 where
  pub whole : AllDigits 10 number.whole
  pub fraction : AllDigits 10 number.fraction
  pub exponent : AllDigits 10 number.exponent
