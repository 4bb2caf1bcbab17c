-- The fields of a locale record's JSON object.
use Rattle.std.specs.Prelude.{refl, ◌≡◌, ◌==◌, ◌&&◌, ℕ, Bool, true, false, List, length, nat_le, chars, codes, Option, Some, None, option_and_then, option_map, ok_or, if◌then◌else◌, Result, Ok, Err}
use Rattle.std.specs.Str.{bytes_eq}
use Rattle.serde_json.specs.Data.{Data}
use Rattle.serde_json.specs.Find.{get, as_number, as_str, as_u64}
use Rattle.mf_text.specs.declared.direction.Direction.{Direction}
use Rattle.mf_text.specs.declared.direction.Direction.TheVariants.{Ltr, Rtl, Unknown}
use Rattle.mf_plural.specs.Computed.{rules_of}
use Rattle.mf_plural.specs.declared.rule.Rule.{Rule}
use Rattle.mf_locale.specs.FieldNames.{name_of}
use Rattle.mf_numfmt.specs.Sizes.{is_size}
use Rattle.mf_locale.specs.declared.field.RecordField.{RecordField}
use Rattle.mf_locale.specs.declared.field.RecordField.TheVariants.{Version, Dir}
use Rattle.mf_locale.specs.declared.size.GroupSize.{GroupSize}

-- why a value is no locale record: a field is missing, of another kind or out of range, or a rule of a field's plural
-- rules is bad, counted from 1
pub data RecordFault : Type 0 where
  bad_field : RecordField → RecordFault
  bad_rule : RecordField → ℕ → RecordFault

-- what was found at a field, or else the fault that names it
abbrev pub needed : {X : Type 0} → RecordField → Option X → Result X RecordFault
needed field found = ok_or found (bad_field field)

-- a whole number that 64 bits without a sign hold
abbrev pub number_at : RecordField → Data → Option ℕ
number_at field value = option_and_then as_u64 (option_and_then as_number (get (name_of field) value))

-- the bytes of a text
abbrev pub text_at : RecordField → Data → Option (List ℕ)
text_at field value = option_and_then as_str (get (name_of field) value)

-- the version is 1
abbrev pub version_from : ℕ → Option ℕ
version_from number = if number == 1 then Some number else None

abbrev pub version_field : Data → Result ℕ RecordFault
version_field value = needed Version (option_and_then version_from (number_at Version value))

-- the direction that a text names
abbrev pub direction_from : List ℕ → Option Direction
direction_from bytes =
    if bytes_eq bytes (codes "ltr") then Some Ltr
    else if bytes_eq bytes (codes "rtl") then Some Rtl
    else if bytes_eq bytes (codes "unknown") then Some Unknown
    else None

abbrev pub direction_field : Data → Result Direction RecordFault
direction_field value = needed Dir (option_and_then direction_from (text_at Dir value))

-- a symbol of numbers has at least so many bytes and at most 16
abbrev pub is_symbol : ℕ → List ℕ → Bool
is_symbol least bytes = nat_le least (length bytes) && nat_le (length bytes) 16

-- the bytes of a symbol
abbrev pub symbol_bytes : ℕ → List ℕ → Option (List ℕ)
symbol_bytes least bytes = if is_symbol least bytes then Some bytes else None

abbrev pub symbol_at : ℕ → RecordField → Data → Option (List ℕ)
symbol_at least field value = option_and_then (symbol_bytes least) (text_at field value)

abbrev pub symbol_field : ℕ → RecordField → Data → Result (List ℕ) RecordFault
symbol_field least field value = needed field (option_map chars (symbol_at least field value))

-- the size of groups that a number is, where it is one
abbrev pub size_by : (number : ℕ) (fits : Bool) → is_size number ≡ fits → Option GroupSize
size_by number true is = Some (record { digits = number; fits = is })
size_by number false is = None

abbrev pub size_from : ℕ → Option GroupSize
size_from number = size_by number (is_size number) refl

abbrev pub size_field : RecordField → Data → Result GroupSize RecordFault
size_field field value = needed field (option_and_then size_from (number_at field value))

-- the plural rules that a field's text spells, or the number of its first bad one: by the laws AreRulesComputed and
-- IsNumberComputed of mf_plural, `rules_of` gives rules exactly where SpellsRules has them, and a number exactly where
-- IsFirstBad has it
abbrev pub rules_in : RecordField → Result (List Rule) ℕ → Result (List Rule) RecordFault
rules_in field (Ok rules) = Ok rules
rules_in field (Err number) = Err (bad_rule field number)

abbrev pub rules_from : RecordField → Option (List ℕ) → Result (List Rule) RecordFault
rules_from field None = Err (bad_field field)
rules_from field (Some bytes) = rules_in field (rules_of bytes)

abbrev pub rules_field : RecordField → Data → Result (List Rule) RecordFault
rules_field field value = rules_from field (text_at field value)
