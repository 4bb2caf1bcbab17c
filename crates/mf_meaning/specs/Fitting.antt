-- The value that a setting has in a call is in its range, since a text gives only such values and a number keeps only such.
use Rattle.std.specs.Prelude.{◌≡◌, refl, ℕ, Bool, true, false, ◌&&◌, nat_le, List, [], ◌∷◌, Option, Some, None, option_and_then, encode_utf8_all, if◌then◌else◌}
use Rattle.std.specs.Option.{option_or}
use Rattle.std.specs.Str.{bytes_eq}
use Rattle.std.specs.Prelude.{codes}
use Rattle.mf_text.specs.declared.pair.Pair.{Pair}
use Rattle.mf_value.specs.NumberOptions.{option_named, is_of}
use Rattle.mf_value.specs.Ranges.{is_within, is_way_of_number}
use Rattle.mf_value.specs.declared.content.Selects.TheVariants.{Plural, Ordinal, Exact}
use Rattle.mf_value.specs.declared.given.Given.{Given}
use Rattle.mf_value.specs.declared.kept.Kept.{Kept}
use Rattle.mf_value.specs.declared.number_option.NumberFunction.{NumberFunction}
use Rattle.mf_value.specs.declared.number_option.NumberOption.{NumberOption}
use Rattle.mf_meaning.specs.OptionValues.{way_named, digits_number, in_range, count_named}
use Rattle.mf_meaning.specs.Options.{Setting, value_at, written_value, preset_value, first_of, effective, option_of, option_at}

-- each value that a text gives or a number keeps is in the range
pub record Fits {V : Type 0} (setting : Setting V) (fits : Option V → Bool) (operand : Kept) : Type 0 where
  pub none : fits None ≡ true
  pub text : (bytes : List ℕ) → fits (setting.value_of bytes) ≡ true
  pub kept : fits (setting.kept operand) ≡ true

pub if_fits : {V : Type 0} (fits : Option V → Bool) (test : Bool) (value : Option V) → fits None ≡ true → fits value ≡ true → fits (if test then value else None) ≡ true
if_fits fits true value none is = is
if_fits fits false value none is = none

pub or_fits : {V : Type 0} (fits : Option V → Bool) (one other : Option V) → fits one ≡ true → fits other ≡ true → fits (option_or one other) ≡ true
or_fits fits None other is more = more
or_fits fits (Some value) other is more = is

pub first_fits : {A V : Type 0} (fits : Option V → Bool) (value : A → Option V) (xs : List A) → fits None ≡ true → ((x : A) → fits (value x) ≡ true) → fits (first_of value xs) ≡ true
first_fits fits value [] none each = none
first_fits fits value (x ∷ xs) none each = or_fits fits (value x) (first_of value xs) (each x) (first_fits fits value xs none each)

pub at_fits : {V : Type 0} (setting : Setting V) (fits : Option V → Bool) (option : Option NumberOption) (literal : Bool) (text : List ℕ) → fits None ≡ true → ((bytes : List ℕ) → fits (setting.value_of bytes) ≡ true) → fits (value_at setting option literal text) ≡ true
at_fits setting fits None literal text none each = none
at_fits setting fits (Some option) literal text none each = if_fits fits _ (setting.value_of text) none (each text)

pub written_fits : {V : Type 0} (function : NumberFunction) (setting : Setting V) (fits : Option V → Bool) (written : List Given) → fits None ≡ true → ((bytes : List ℕ) → fits (setting.value_of bytes) ≡ true) → fits (first_of (written_value function setting) written) ≡ true
written_fits function setting fits written none each =
    first_fits fits (written_value function setting) written none (λ given. at_fits setting fits (option_of function given.name) given.literal (encode_utf8_all given.value) none each)

pub presets_fit : {V : Type 0} (function : NumberFunction) (setting : Setting V) (fits : Option V → Bool) (presets : List Pair) → fits None ≡ true → ((bytes : List ℕ) → fits (setting.value_of bytes) ≡ true) → fits (first_of (preset_value function setting) presets) ≡ true
presets_fit function setting fits presets none each =
    first_fits fits (preset_value function setting) presets none (λ preset. at_fits setting fits (option_at function (option_named (encode_utf8_all preset.name))) true (encode_utf8_all preset.value) none each)

pub effective_fits : {V : Type 0} (function : NumberFunction) (setting : Setting V) (fits : Option V → Bool) (written : List Given) (presets : List Pair) (kept : Kept) → Fits setting fits kept → fits (effective function setting written presets kept) ≡ true
effective_fits function setting fits written presets kept h =
    or_fits fits (first_of (written_value function setting) written) _
    (written_fits function setting fits written h.none h.text)
    (or_fits fits (first_of (preset_value function setting) presets) _
    (presets_fit function setting fits presets h.none h.text)
    (if_fits fits (is_of function setting.option) (setting.kept kept) h.none h.kept))

-- a count of digits
range_by : (least most count : ℕ) (test : Bool) → (nat_le least count && nat_le count most) ≡ test → is_within least most (if test then Some count else None) ≡ true
range_by least most count true is = is
range_by least most count false is = refl

digits_within : (least most : ℕ) (digits : Option ℕ) → is_within least most (option_and_then (in_range least most) digits) ≡ true
digits_within least most None = refl
digits_within least most (Some count) = range_by least most count (nat_le least count && nat_le count most) refl

pub count_within : (least most : ℕ) (text : List ℕ) → is_within least most (count_named least most text) ≡ true
count_within least most text = digits_within least most (digits_number text)

-- a way to select
way_by : (first second third : Bool) → is_way_of_number (if first then Some Plural else if second then Some Ordinal else if third then Some Exact else None) ≡ true
way_by true second third = refl
way_by false true third = refl
way_by false false true = refl
way_by false false false = refl

pub way_fits : (text : List ℕ) → is_way_of_number (way_named text) ≡ true
way_fits text = way_by (bytes_eq text (codes "plural")) (bytes_eq text (codes "ordinal")) (bytes_eq text (codes "exact"))
