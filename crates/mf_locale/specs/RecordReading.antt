-- The locale record that a JSON value is, or why it is none.
use Rattle.std.specs.Prelude.{◌≡◌, ℕ, List, Result, Ok, Err}
use Rattle.serde_json.specs.Data.{Data}
use Rattle.mf_text.specs.declared.direction.Direction.{Direction}
use Rattle.mf_plural.specs.declared.rule.Rule.{Rule}
use Rattle.mf_locale.specs.RecordFields.{RecordFault, bad_field, bad_rule, version_field, direction_field, symbol_field, size_field, rules_field}
use Rattle.mf_locale.specs.declared.error.LocaleError.{LocaleError}
use Rattle.mf_locale.specs.declared.error.LocaleError.TheVariants as error
use Rattle.mf_locale.specs.declared.field.RecordField.TheVariants.{Decimal, Group, Minus, Plus, Primary, Secondary, MinGroup, Plural, Ordinal}
use Rattle.mf_locale.specs.declared.record.LocaleRecord.{LocaleRecord}
use Rattle.mf_locale.specs.declared.size.GroupSize.{GroupSize}

-- what comes of what a field has, or else the fault that was found at it
abbrev pub and_then : {X Y : Type 0} → Result X RecordFault → (X → Result Y RecordFault) → Result Y RecordFault
and_then (Ok x) next = next x
and_then (Err fault) next = Err fault

-- the record of what its fields have
abbrev pub record_with : Direction → (decimal group minus plus : List ℕ) (primary secondary min_group : GroupSize) (plural ordinal : List Rule) → LocaleRecord
record_with dir decimal group minus plus primary secondary min_group plural ordinal = record {
  dir = dir;
  layout =
      record {
        decimal = decimal;
        group = group;
        minus = minus;
        plus = plus;
        primary = primary.digits;
        secondary = secondary.digits;
        min_group = min_group.digits;
        primary_fits = primary.fits;
        secondary_fits = secondary.fits;
        min_group_fits = min_group.fits;
      };
  plural = plural;
  ordinal = ordinal;
}

-- the record that a JSON value is, or the fault at the first field that has one; fields of other names are passed over
abbrev pub record_of : Data → Result LocaleRecord RecordFault
record_of value =
    and_then (version_field value) (λ version.
    and_then (direction_field value) (λ dir.
    and_then (symbol_field 1 Decimal value) (λ decimal.
    and_then (symbol_field 0 Group value) (λ group.
    and_then (symbol_field 1 Minus value) (λ minus.
    and_then (symbol_field 1 Plus value) (λ plus.
    and_then (size_field Primary value) (λ primary.
    and_then (size_field Secondary value) (λ secondary.
    and_then (size_field MinGroup value) (λ min_group.
    and_then (rules_field Plural value) (λ plural.
    and_then (rules_field Ordinal value) (λ ordinal.
    Ok (record_with dir decimal group minus plus primary secondary min_group plural ordinal))))))))))))

-- the error is that of the fault; nothing is said of want of memory
abbrev pub IsDue : {X : Type 0} → Result X RecordFault → LocaleError → Type 0
IsDue read error.BadTag = ⊥
IsDue read (error.BadField field) = read ≡ Err (bad_field field)
IsDue read (error.BadRule field number) = read ≡ Err (bad_rule field number)
IsDue read error.OutOfMemory = Unit {0}
