-- What a call of a built-in function gives (Unicode TS 35, Part 9, "Default Functions").
use Rattle.std.specs.Prelude.{◌≡◌, refl, ℕ, ◌+◌, Bool, true, false, List, [], ◌∷◌, Option, Some, None, option_map, encode_utf8_all, if◌then◌else◌}
use Rattle.mf_decimal.specs.declared.decimal.Decimal.{Decimal}
use Rattle.mf_locale.specs.declared.record.LocaleRecord.{LocaleRecord}
use Rattle.mf_text.specs.declared.direction.Direction.TheVariants.{Unknown}
use Rattle.mf_text.specs.declared.pair.Pair.{Pair}
use Rattle.mf_tree.specs.declared.fault.Kind.TheVariants.{BadOption}
use Rattle.mf_tree.specs.declared.name.Identifier.{Identifier}
use Rattle.mf_tree.specs.declared.name.Name.{Name}
use Rattle.mf_value.specs.Ranges.{is_way_of_number}
use Rattle.mf_value.specs.Values.{nothing_kept, option_text, selects_so}
use Rattle.mf_value.specs.BuiltIns.{function_named}
use Rattle.mf_value.specs.declared.built_in.BuiltIn.{BuiltIn}
use Rattle.mf_value.specs.declared.built_in.BuiltIn.TheVariants as function
use Rattle.mf_value.specs.declared.called.CallFault.{CallFault}
use Rattle.mf_value.specs.declared.called.Called.{Called}
use Rattle.mf_value.specs.declared.content.Content.{Content}
use Rattle.mf_value.specs.declared.content.Content.TheVariants as content
use Rattle.mf_value.specs.declared.content.Selects.{Selects}
use Rattle.mf_value.specs.declared.content.Selects.TheVariants.{Nothing, Text, Plural, Ordinal, Exact}
use Rattle.mf_value.specs.declared.given.Given.{Given}
use Rattle.mf_value.specs.declared.kept.Kept.{Kept}
use Rattle.mf_value.specs.declared.number_option.NumberFunction.{NumberFunction}
use Rattle.mf_value.specs.declared.number_option.NumberFunction.TheVariants.{Number, Integer}
use Rattle.mf_value.specs.declared.value.Value.{Value}
use Rattle.mf_meaning.specs.Kept.{kept_after}
use Rattle.mf_meaning.specs.Numbers.{number_of, cut}
use Rattle.mf_meaning.specs.Options.{is_allowed, selects_by_variable}

-- the options that a function refuses, by their places from 0, in the order of the source
abbrev pub refused_from : (Given → Bool) → ℕ → List Given → List CallFault
refused_from allowed at [] = []
refused_from allowed at (given ∷ others) =
    if allowed given then refused_from allowed (at + 1) others
    else record { kind = BadOption; option = at } ∷ refused_from allowed (at + 1) others

abbrev pub refused_options : (Given → Bool) → List Given → List CallFault
refused_options allowed written = refused_from allowed 0 written

-- the function refuses its operand, and then there is no other error
abbrev pub bad_operand : Called
bad_operand = record { value = None; faults = [] }

-- the function gives a value where it has one for the operand
abbrev pub called_with : Option Value → List CallFault → Called
called_with None faults = bad_operand
called_with (Some value) faults = record { value = Some value; faults = faults }

-- a number as an operand: its amount, and what it keeps; a text is one where it is a number literal that is not too wide
abbrev pub text_operand : Option Decimal → Option (Decimal × Kept)
text_operand None = None
text_operand (Some amount) = Some (amount, nothing_kept)

abbrev pub content_number : Content → Option (Decimal × Kept)
content_number (content.Text text) = text_operand (number_of text)
content_number (content.Number amount kept) = Some (amount, kept)
content_number (content.Fallback source) = None

abbrev pub operand_number : Option Value → Option (Decimal × Kept)
operand_number None = None
operand_number (Some value) = content_number value.content

-- `:integer` cuts the amount toward zero
abbrev pub amount_of : NumberFunction → Decimal → Decimal
amount_of Number amount = amount
amount_of Integer amount = cut amount

-- how a number selects: as its options say, or not at all where `select` is given by a variable in this very call
abbrev pub way_kept : Option Selects → Selects
way_kept None = Plural
way_kept (Some way) = way

abbrev pub way_of : Bool → Option Selects → Selects
way_of by_variable kept = if by_variable then Nothing else way_kept kept

way_kept_fits : (amount : Decimal) (kept : Kept) (way : Option Selects) → is_way_of_number way ≡ true → selects_so (content.Number amount kept) (way_kept way) ≡ true
way_kept_fits amount kept None is = refl
way_kept_fits amount kept (Some Plural) is = refl
way_kept_fits amount kept (Some Ordinal) is = refl
way_kept_fits amount kept (Some Exact) is = refl
way_kept_fits amount kept (Some Nothing) is = refl
way_kept_fits amount kept (Some Text) is = is

pub way_fits : (amount : Decimal) (kept : Kept) (by_variable : Bool) (way : Option Selects) → is_way_of_number way ≡ true → selects_so (content.Number amount kept) (way_of by_variable way) ≡ true
way_fits amount kept true way is = refl
way_fits amount kept false way is = way_kept_fits amount kept way is

-- a number with what it keeps: it has the direction of the locale
abbrev pub number_value : LocaleRecord → Decimal → Kept → Bool → Value
number_value locale amount kept by_variable = record {
  content = content.Number amount kept;
  dir = locale.dir;
  forced = false;
  id = None;
  prefix = [];
  suffix = [];
  selects = way_of by_variable kept.select;
  selects_fits = way_fits amount kept by_variable kept.select kept.select_fits;
}

-- `:number` and `:integer`
abbrev pub number_after : LocaleRecord → NumberFunction → List Given → List Pair → Decimal × Kept → Value
number_after locale function written presets operand =
    number_value locale (amount_of function operand.0) (kept_after function written presets operand.1) (selects_by_variable function written)

abbrev pub number_called : LocaleRecord → NumberFunction → List Pair → Option Value → List Given → Called
number_called locale function presets operand written =
    called_with (option_map (number_after locale function written presets) (operand_number operand)) (refused_options (is_allowed function) written)

-- the option text of an operand
abbrev pub operand_text : Option Value → Option (List ℕ)
operand_text None = None
operand_text (Some value) = option_text value.content

-- a text that selects as one: its direction is unknown
abbrev pub text_value : List ℕ → Value
text_value text = record {
  content = content.Text text;
  dir = Unknown;
  forced = false;
  id = None;
  prefix = [];
  suffix = [];
  selects = Text;
  selects_fits = refl;
}

-- `:string`, which has no options
abbrev pub string_called : Option Value → List Given → Called
string_called operand written = called_with (option_map text_value (operand_text operand)) (refused_options (λ given. false) written)

-- a built-in function's name has no namespace
abbrev pub function_at : Option Name → Name → Option BuiltIn
function_at None name = function_named (encode_utf8_all name.value)
function_at (Some namespace) name = None

abbrev pub built_in : Identifier → Option BuiltIn
built_in identifier = function_at identifier.namespace identifier.name

-- what a call of a function gives where some options are preset; what no function has refuses each operand
abbrev pub base_called : LocaleRecord → Option BuiltIn → List Pair → Option Value → List Given → Called
base_called locale None presets operand written = bad_operand
base_called locale (Some function.String) presets operand written = string_called operand written
base_called locale (Some (function.Numeric of_numbers)) presets operand written = number_called locale of_numbers presets operand written
