-- The options of the functions over numbers, by their names (Unicode TS 35, Part 9, :number and :integer).
use Rattle.std.specs.Prelude.{ℕ, Bool, true, false, List, codes, Option, Some, None, if◌then◌else◌}
use Rattle.std.specs.Str.{bytes_eq}
use Rattle.mf_value.specs.declared.number_option.NumberFunction.{NumberFunction}
use Rattle.mf_value.specs.declared.number_option.NumberFunction.TheVariants.{Number, Integer}
use Rattle.mf_value.specs.declared.number_option.NumberOption.{NumberOption}
use Rattle.mf_value.specs.declared.number_option.NumberOption.TheVariants.{Select, SignDisplay, UseGrouping, MinimumIntegerDigits, MinimumFractionDigits, MaximumFractionDigits, MinimumSignificantDigits, MaximumSignificantDigits}

-- the option with this name, given by the bytes of its UTF-8
abbrev pub option_named : List ℕ → Option NumberOption
option_named name =
    if bytes_eq name (codes "select") then Some Select
    else if bytes_eq name (codes "signDisplay") then Some SignDisplay
    else if bytes_eq name (codes "useGrouping") then Some UseGrouping
    else if bytes_eq name (codes "minimumIntegerDigits") then Some MinimumIntegerDigits
    else if bytes_eq name (codes "minimumFractionDigits") then Some MinimumFractionDigits
    else if bytes_eq name (codes "maximumFractionDigits") then Some MaximumFractionDigits
    else if bytes_eq name (codes "minimumSignificantDigits") then Some MinimumSignificantDigits
    else if bytes_eq name (codes "maximumSignificantDigits") then Some MaximumSignificantDigits
    else None

-- the function has the option: three are those of `:number` alone
abbrev pub is_of : NumberFunction → NumberOption → Bool
is_of function Select = true
is_of function SignDisplay = true
is_of function UseGrouping = true
is_of function MinimumIntegerDigits = true
is_of Number MinimumFractionDigits = true
is_of Integer MinimumFractionDigits = false
is_of Number MaximumFractionDigits = true
is_of Integer MaximumFractionDigits = false
is_of Number MinimumSignificantDigits = true
is_of Integer MinimumSignificantDigits = false
is_of function MaximumSignificantDigits = true

-- two options are one
abbrev pub is_same_option : NumberOption → NumberOption → Bool
is_same_option Select Select = true
is_same_option SignDisplay SignDisplay = true
is_same_option UseGrouping UseGrouping = true
is_same_option MinimumIntegerDigits MinimumIntegerDigits = true
is_same_option MinimumFractionDigits MinimumFractionDigits = true
is_same_option MaximumFractionDigits MaximumFractionDigits = true
is_same_option MinimumSignificantDigits MinimumSignificantDigits = true
is_same_option MaximumSignificantDigits MaximumSignificantDigits = true
is_same_option option other = false
