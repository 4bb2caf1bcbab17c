-- The options of the functions over numbers, in the order of their table, and the value that one of them has in a call
-- (Unicode TS 35, Part 9, :number and :integer).
use Rattle.std.specs.Prelude.{ℕ, Bool, true, false, ◌&&◌, ◌||◌, not, List, [], ◌∷◌, Option, Some, None, encode_utf8_all, if◌then◌else◌}
use Rattle.std.specs.Option.{is_some, option_or}
use Rattle.std.specs.List.{list_any}
use Rattle.mf_text.specs.declared.pair.Pair.{Pair}
use Rattle.mf_numfmt.specs.declared.options.Grouping.{Grouping}
use Rattle.mf_numfmt.specs.declared.options.Sign.{Sign}
use Rattle.mf_tree.specs.declared.name.Identifier.{Identifier}
use Rattle.mf_tree.specs.declared.name.Name.{Name}
use Rattle.mf_value.specs.NumberOptions.{option_named, is_of, is_same_option}
use Rattle.mf_value.specs.declared.content.Selects.{Selects}
use Rattle.mf_value.specs.declared.given.Given.{Given}
use Rattle.mf_value.specs.declared.kept.Kept.{Kept}
use Rattle.mf_value.specs.declared.number_option.NumberFunction.{NumberFunction}
use Rattle.mf_value.specs.declared.number_option.NumberOption.{NumberOption}
use Rattle.mf_value.specs.declared.number_option.NumberOption.TheVariants as options
use Rattle.mf_meaning.specs.OptionValues.{way_named, sign_named, grouping_named, count_named}

-- what an option is, beside its name: the value that a text gives it, if the text is allowed; whether a literal alone may
-- give it; and what a number keeps of it
pub record Setting (V : Type 0) : Type 0 where
  pub option : NumberOption
  pub value_of : List ℕ → Option V
  pub literal_alone : Bool
  pub kept : Kept → Option V

abbrev pub select : Setting Selects
select = record { option = options.Select; value_of = way_named; literal_alone = true; kept = λ k. k.select }

abbrev pub sign_display : Setting Sign
sign_display = record { option = options.SignDisplay; value_of = sign_named; literal_alone = false; kept = λ k. k.sign }

abbrev pub use_grouping : Setting Grouping
use_grouping = record { option = options.UseGrouping; value_of = grouping_named; literal_alone = false; kept = λ k. k.grouping }

abbrev pub minimum_integer_digits : Setting ℕ
minimum_integer_digits = record { option = options.MinimumIntegerDigits; value_of = count_named 1 21; literal_alone = false; kept = λ k. k.min_whole }

abbrev pub minimum_fraction_digits : Setting ℕ
minimum_fraction_digits = record { option = options.MinimumFractionDigits; value_of = count_named 0 20; literal_alone = false; kept = λ k. k.min_fraction }

abbrev pub maximum_fraction_digits : Setting ℕ
maximum_fraction_digits = record { option = options.MaximumFractionDigits; value_of = count_named 0 20; literal_alone = false; kept = λ k. k.max_fraction }

abbrev pub minimum_significant_digits : Setting ℕ
minimum_significant_digits = record { option = options.MinimumSignificantDigits; value_of = count_named 1 21; literal_alone = false; kept = λ k. k.min_significant }

abbrev pub maximum_significant_digits : Setting ℕ
maximum_significant_digits = record { option = options.MaximumSignificantDigits; value_of = count_named 1 21; literal_alone = false; kept = λ k. k.max_significant }

-- the option that a name means: it has no namespace, and the function has the option
abbrev pub option_at : NumberFunction → Option NumberOption → Option NumberOption
option_at function None = None
option_at function (Some option) = if is_of function option then Some option else None

abbrev pub option_of_name : NumberFunction → Option Name → Name → Option NumberOption
option_of_name function None name = option_at function (option_named (encode_utf8_all name.value))
option_of_name function (Some namespace) name = None

abbrev pub option_of : NumberFunction → Identifier → Option NumberOption
option_of function identifier = option_of_name function identifier.namespace identifier.name

-- the value that a text gives a setting where it is given to this option, by a literal or not
abbrev pub value_at : {V : Type 0} → Setting V → Option NumberOption → Bool → List ℕ → Option V
value_at setting None literal text = None
value_at setting (Some option) literal text =
    if is_same_option setting.option option && (literal || not setting.literal_alone) then setting.value_of text else None

-- the value that an option which is written gives a setting, if it is one of that name whose value is allowed
abbrev pub written_value : {V : Type 0} → NumberFunction → Setting V → Given → Option V
written_value function setting given = value_at setting (option_of function given.name) given.literal (encode_utf8_all given.value)

-- and a preset, which counts as a literal
abbrev pub preset_value : {V : Type 0} → NumberFunction → Setting V → Pair → Option V
preset_value function setting preset = value_at setting (option_at function (option_named (encode_utf8_all preset.name))) true (encode_utf8_all preset.value)

-- the first value that one of a list gives
abbrev pub first_of : {A V : Type 0} → (A → Option V) → List A → Option V
first_of value [] = None
first_of value (x ∷ xs) = option_or (value x) (first_of value xs)

-- what the function inherits of a setting: it must have the option itself
abbrev pub inherited_from : {V : Type 0} → NumberFunction → NumberOption → Option V → Option V
inherited_from function option kept = if is_of function option then kept else None

abbrev pub inherited : {V : Type 0} → NumberFunction → Setting V → Kept → Option V
inherited function setting kept = inherited_from function setting.option (setting.kept kept)

-- the value that a setting has in a call: the one that is written, else that of a preset, else the one that the operand keeps
abbrev pub effective : {V : Type 0} → NumberFunction → Setting V → List Given → List Pair → Kept → Option V
effective function setting written presets kept =
    option_or (first_of (written_value function setting) written) (option_or (first_of (preset_value function setting) presets) (inherited function setting kept))

-- whether what is given to this option, by a literal or not, gives some setting a value
abbrev pub allows : {V : Type 0} → Option NumberOption → Bool → List ℕ → Setting V → Bool
allows option literal text setting = is_some (value_at setting option literal text)

abbrev pub allows_text : Option NumberOption → Bool → List ℕ → Bool
allows_text option literal text =
    allows option literal text select
    || (allows option literal text sign_display
    || (allows option literal text use_grouping
    || (allows option literal text minimum_integer_digits
    || (allows option literal text minimum_fraction_digits
    || (allows option literal text maximum_fraction_digits
    || (allows option literal text minimum_significant_digits
    || allows option literal text maximum_significant_digits))))))

-- an option that is written is allowed
abbrev pub is_allowed : NumberFunction → Given → Bool
is_allowed function given = allows_text (option_of function given.name) given.literal (encode_utf8_all given.value)

-- and a preset
abbrev pub is_preset_allowed : NumberFunction → Pair → Bool
is_preset_allowed function preset = allows_text (option_at function (option_named (encode_utf8_all preset.name))) true (encode_utf8_all preset.value)

-- `select` is given by a variable
abbrev pub is_select : Option NumberOption → Bool
is_select None = false
is_select (Some option) = is_same_option options.Select option

abbrev pub is_select_by_variable : NumberFunction → Given → Bool
is_select_by_variable function given = is_select (option_of function given.name) && not given.literal

abbrev pub selects_by_variable : NumberFunction → List Given → Bool
selects_by_variable function written = list_any (is_select_by_variable function) written
