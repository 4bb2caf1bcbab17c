-- The options of a call, read once: for private clauses.
use Rattle.std.specs.Prelude.{◌≡◌, ℕ, Bool, true, false, not, ◌||◌, List, [], ◌∷◌, Option, Some, None, encode_utf8_all}
use Rattle.std.specs.Option.{is_some, option_or}
use Rattle.mf_text.specs.declared.pair.Pair.{Pair}
use Rattle.mf_value.specs.NumberOptions.{option_named}
use Rattle.mf_value.specs.Ranges.{is_within, is_way_of_number}
use Rattle.mf_value.specs.declared.given.Given.{Given}
use Rattle.mf_value.specs.declared.kept.Kept.{Kept}
use Rattle.mf_value.specs.declared.number_option.NumberFunction.{NumberFunction}
use Rattle.mf_value.specs.declared.number_option.NumberOption.{NumberOption}
use Rattle.mf_value.specs.declared.number_option.NumberOption.TheVariants.{Select, SignDisplay, UseGrouping, MinimumIntegerDigits, MinimumFractionDigits, MaximumFractionDigits, MinimumSignificantDigits, MaximumSignificantDigits}
use Rattle.mf_meaning.specs.Options.{option_at, option_of, value_at, inherited_from, select, sign_display, use_grouping, minimum_integer_digits, minimum_fraction_digits, maximum_fraction_digits, minimum_significant_digits, maximum_significant_digits}
use Rattle.mf_functions.specs.declared.written.Written.{Written}

-- no option
abbrev pub nothing_written : Written
nothing_written = record {
  select = None;
  sign = None;
  grouping = None;
  min_whole = None;
  min_fraction = None;
  max_fraction = None;
  min_significant = None;
  max_significant = None;
  by_variable = false;
}

-- one more option, given by a literal or not: a setting keeps the first value that it is given
abbrev pub with_option : Written → Option NumberOption → Bool → List ℕ → Written
with_option w None literal text = w
with_option w (Some Select) literal text = record w { select = option_or w.select (value_at select (Some Select) literal text); by_variable = w.by_variable || not literal }
with_option w (Some SignDisplay) literal text = record w { sign = option_or w.sign (value_at sign_display (Some SignDisplay) literal text) }
with_option w (Some UseGrouping) literal text = record w { grouping = option_or w.grouping (value_at use_grouping (Some UseGrouping) literal text) }
with_option w (Some MinimumIntegerDigits) literal text = record w { min_whole = option_or w.min_whole (value_at minimum_integer_digits (Some MinimumIntegerDigits) literal text) }
with_option w (Some MinimumFractionDigits) literal text = record w { min_fraction = option_or w.min_fraction (value_at minimum_fraction_digits (Some MinimumFractionDigits) literal text) }
with_option w (Some MaximumFractionDigits) literal text = record w { max_fraction = option_or w.max_fraction (value_at maximum_fraction_digits (Some MaximumFractionDigits) literal text) }
with_option w (Some MinimumSignificantDigits) literal text = record w { min_significant = option_or w.min_significant (value_at minimum_significant_digits (Some MinimumSignificantDigits) literal text) }
with_option w (Some MaximumSignificantDigits) literal text = record w { max_significant = option_or w.max_significant (value_at maximum_significant_digits (Some MaximumSignificantDigits) literal text) }

abbrev pub with_given : NumberFunction → Written → Given → Written
with_given function w given = with_option w (option_of function given.name) given.literal (encode_utf8_all given.value)

-- a preset counts as given by a literal
abbrev pub preset_option : NumberFunction → Pair → Option NumberOption
preset_option function preset = option_at function (option_named (encode_utf8_all preset.name))

abbrev pub with_preset : NumberFunction → Written → Pair → Written
with_preset function w preset = with_option w (preset_option function preset) true (encode_utf8_all preset.value)

-- the presets of a list behind those that were read
abbrev pub preset_from : NumberFunction → Written → List Pair → Written
preset_from function w [] = w
preset_from function w (preset ∷ others) = preset_from function (with_preset function w preset) others

-- the options of a list behind those that were read
abbrev pub written_from : NumberFunction → Written → List Given → Written
written_from function w [] = w
written_from function w (given ∷ others) = written_from function (with_given function w given) others

-- whether the option's value is allowed
abbrev pub takes_option : Option NumberOption → Bool → List ℕ → Bool
takes_option None literal text = false
takes_option (Some Select) literal text = is_some (value_at select (Some Select) literal text)
takes_option (Some SignDisplay) literal text = is_some (value_at sign_display (Some SignDisplay) literal text)
takes_option (Some UseGrouping) literal text = is_some (value_at use_grouping (Some UseGrouping) literal text)
takes_option (Some MinimumIntegerDigits) literal text = is_some (value_at minimum_integer_digits (Some MinimumIntegerDigits) literal text)
takes_option (Some MinimumFractionDigits) literal text = is_some (value_at minimum_fraction_digits (Some MinimumFractionDigits) literal text)
takes_option (Some MaximumFractionDigits) literal text = is_some (value_at maximum_fraction_digits (Some MaximumFractionDigits) literal text)
takes_option (Some MinimumSignificantDigits) literal text = is_some (value_at minimum_significant_digits (Some MinimumSignificantDigits) literal text)
takes_option (Some MaximumSignificantDigits) literal text = is_some (value_at maximum_significant_digits (Some MaximumSignificantDigits) literal text)

abbrev pub takes_given : NumberFunction → Given → Bool
takes_given function given = takes_option (option_of function given.name) given.literal (encode_utf8_all given.value)

abbrev pub takes_preset : NumberFunction → Pair → Bool
takes_preset function preset = takes_option (preset_option function preset) true (encode_utf8_all preset.value)

-- each value is in its range
pub record AreInRange (w : Written) : Type 0 where
  pub select : is_way_of_number w.select ≡ true
  pub min_whole : is_within 1 21 w.min_whole ≡ true
  pub min_fraction : is_within 0 20 w.min_fraction ≡ true
  pub max_fraction : is_within 0 20 w.max_fraction ≡ true
  pub min_significant : is_within 1 21 w.min_significant ≡ true
  pub max_significant : is_within 1 21 w.max_significant ≡ true

-- what is kept is what is written, else what is inherited
pub record IsKept (function : NumberFunction) (w : Written) (k kept : Kept) : Type 0 where
  pub select : kept.select ≡ option_or w.select k.select
  pub sign : kept.sign ≡ option_or w.sign k.sign
  pub grouping : kept.grouping ≡ option_or w.grouping k.grouping
  pub min_whole : kept.min_whole ≡ option_or w.min_whole k.min_whole
  pub min_fraction : kept.min_fraction ≡ option_or w.min_fraction (inherited_from function MinimumFractionDigits k.min_fraction)
  pub max_fraction : kept.max_fraction ≡ option_or w.max_fraction (inherited_from function MaximumFractionDigits k.max_fraction)
  pub min_significant : kept.min_significant ≡ option_or w.min_significant (inherited_from function MinimumSignificantDigits k.min_significant)
  pub max_significant : kept.max_significant ≡ option_or w.max_significant k.max_significant
