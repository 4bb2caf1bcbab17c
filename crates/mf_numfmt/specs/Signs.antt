-- The sign of a number (Unicode TS 35, Part 9, the option signDisplay).
use Rattle.std.specs.Prelude.{ℕ, Bool, List, [], ◌+◌, ◌==◌, if◌then◌else◌}
use Rattle.mf_decimal.specs.declared.shown.Shown.{Shown}
use Rattle.mf_numfmt.specs.declared.layout.Layout.{Layout}
use Rattle.mf_numfmt.specs.declared.options.Sign.{Sign}
use Rattle.mf_numfmt.specs.declared.options.Sign.TheVariants.{Auto, Always, ExceptZero, Negative, Never}

-- whether the number is shown as zero
abbrev pub is_zero : Shown → Bool
is_zero shown = shown.whole + shown.fraction == 0

-- the symbol that stands before the number
abbrev pub sign_text : Layout → Sign → Shown → List ℕ
sign_text layout Auto shown = if shown.negative then layout.minus else []
sign_text layout Always shown = if shown.negative then layout.minus else layout.plus
sign_text layout ExceptZero shown = if shown.negative then layout.minus else if is_zero shown then [] else layout.plus
sign_text layout Negative shown = if shown.negative then layout.minus else []
sign_text layout Never shown = []
