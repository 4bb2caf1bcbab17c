-- The ranges of the options that a number keeps (Unicode TS 35, Part 9, :number and :integer).
use Rattle.std.specs.Prelude.{ℕ, Bool, true, false, ◌&&◌, nat_le, Option, Some, None}
use Rattle.mf_value.specs.declared.content.Selects.{Selects}
use Rattle.mf_value.specs.declared.content.Selects.TheVariants.{Nothing, Text, Plural, Ordinal, Exact}

-- a count of digits, where there is one, is from a least to a most
abbrev pub is_within : ℕ → ℕ → Option ℕ → Bool
is_within least most None = true
is_within least most (Some count) = nat_le least count && nat_le count most

-- what `select` can say, where it says something
abbrev pub is_way_of_number : Option Selects → Bool
is_way_of_number None = true
is_way_of_number (Some Plural) = true
is_way_of_number (Some Ordinal) = true
is_way_of_number (Some Exact) = true
is_way_of_number (Some Nothing) = false
is_way_of_number (Some Text) = false
