-- Where the whole digits of a number are separated (Unicode TS 35, Part 3, "Number Patterns" and the element
-- minimumGroupingDigits; Part 9, the option useGrouping).
use Rattle.std.specs.Prelude.{ℕ, ◌+◌, ◌-◌, ◌%◌, Bool, false, ◌&&◌, ◌==◌, nat_le}
use Rattle.mf_numfmt.specs.declared.layout.Layout.{Layout}
use Rattle.mf_numfmt.specs.declared.options.Grouping.{Grouping}
use Rattle.mf_numfmt.specs.declared.options.Grouping.TheVariants.{Auto, Always, Never, Min2}

-- whether so many whole digits are separated at all: so many stand before the primary group that it is wanted
abbrev pub is_grouped : Layout → Grouping → ℕ → Bool
is_grouped layout Auto digits = nat_le (layout.primary + layout.min_group) digits
is_grouped layout Always digits = nat_le (layout.primary + 1) digits
is_grouped layout Never digits = false
is_grouped layout Min2 digits = nat_le (layout.primary + 2) digits

-- whether a separator stands to the right of the digit at this place, which has as many digits to its right: they are
-- a primary group, and then whole secondary groups
abbrev pub separates : Layout → ℕ → Bool
separates layout place = nat_le layout.primary place && ((place - layout.primary) % layout.secondary == 0)
