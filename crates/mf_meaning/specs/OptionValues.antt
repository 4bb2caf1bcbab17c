-- What the options of a function over numbers may say (Unicode TS 35, Part 9, :number and :integer). Texts are given by the
-- bytes of their UTF-8.
use Rattle.std.specs.Prelude.{ℕ, ◌+◌, ◌-◌, ◌*◌, Bool, ◌&&◌, nat_le, List, [], ◌∷◌, codes, Option, Some, None, option_and_then, if◌then◌else◌}
use Rattle.std.specs.Char.{is_ascii_digit}
use Rattle.std.specs.Str.{bytes_eq}
use Rattle.mf_numfmt.specs.declared.options.Grouping.{Grouping}
use Rattle.mf_numfmt.specs.declared.options.Grouping.TheVariants as grouping
use Rattle.mf_numfmt.specs.declared.options.Sign.{Sign}
use Rattle.mf_numfmt.specs.declared.options.Sign.TheVariants as sign
use Rattle.mf_value.specs.declared.content.Selects.{Selects}
use Rattle.mf_value.specs.declared.content.Selects.TheVariants.{Plural, Ordinal, Exact}

-- select
abbrev pub way_named : List ℕ → Option Selects
way_named text =
    if bytes_eq text (codes "plural") then Some Plural
    else if bytes_eq text (codes "ordinal") then Some Ordinal
    else if bytes_eq text (codes "exact") then Some Exact
    else None

-- signDisplay
abbrev pub sign_named : List ℕ → Option Sign
sign_named text =
    if bytes_eq text (codes "auto") then Some sign.Auto
    else if bytes_eq text (codes "always") then Some sign.Always
    else if bytes_eq text (codes "exceptZero") then Some sign.ExceptZero
    else if bytes_eq text (codes "negative") then Some sign.Negative
    else if bytes_eq text (codes "never") then Some sign.Never
    else None

-- useGrouping
abbrev pub grouping_named : List ℕ → Option Grouping
grouping_named text =
    if bytes_eq text (codes "auto") then Some grouping.Auto
    else if bytes_eq text (codes "always") then Some grouping.Always
    else if bytes_eq text (codes "never") then Some grouping.Never
    else if bytes_eq text (codes "min2") then Some grouping.Min2
    else None

-- one digit, or two of which the first is no zero
abbrev pub is_first_digit : ℕ → Bool
is_first_digit byte = nat_le 49 byte && nat_le byte 57

abbrev pub digits_number : List ℕ → Option ℕ
digits_number [] = None
digits_number (one ∷ []) = if is_ascii_digit one then Some (one - 48) else None
digits_number (ten ∷ one ∷ []) = if is_first_digit ten && is_ascii_digit one then Some ((ten - 48) * 10 + (one - 48)) else None
digits_number (ten ∷ one ∷ more ∷ rest) = None

-- a count of digits in its range
abbrev pub in_range : ℕ → ℕ → ℕ → Option ℕ
in_range least most count = if nat_le least count && nat_le count most then Some count else None

abbrev pub count_named : ℕ → ℕ → List ℕ → Option ℕ
count_named least most text = option_and_then (in_range least most) (digits_number text)
