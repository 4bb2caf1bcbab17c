-- The exact text of a decimal.
use Rattle.std.specs.Prelude.{ℕ, zero, suc, ◌+◌, ◌/◌, ◌%◌, ◌^◌, Bool, List, [], ◌∷◌, ◌++◌, if◌then◌else◌}
use Rattle.std.specs.Fmt.{decimal}
use Rattle.mf_decimal.specs.declared.decimal.Decimal.{Decimal}

-- n written in so many digits
abbrev pub in_digits : ℕ → ℕ → List ℕ
in_digits zero n = []
in_digits (suc k) n = in_digits k (n / 10) ++ (48 + n % 10) ∷ []

-- `-` below zero
abbrev pub sign_text : Bool → List ℕ
sign_text negative = if negative then 45 ∷ [] else []

-- the point and the fraction in so many digits, where there are any
abbrev pub fraction_text : ℕ → ℕ → List ℕ
fraction_text zero fraction = []
fraction_text (suc k) fraction = 46 ∷ in_digits (suc k) fraction

-- the plain decimal: the sign, the whole digits, and the fraction
abbrev pub exact_text : Decimal → List ℕ
exact_text x =
    sign_text x.negative ++ (decimal (x.coefficient / 10 ^ x.scale) ++ fraction_text x.scale (x.coefficient % 10 ^ x.scale))
