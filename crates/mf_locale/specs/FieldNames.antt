-- The names of the fields of a locale record.
use Rattle.std.specs.Prelude.{ℕ, List, codes}
use Rattle.mf_locale.specs.declared.field.RecordField.{RecordField}
use Rattle.mf_locale.specs.declared.field.RecordField.TheVariants as field

-- the bytes of a field's name
abbrev pub name_of : RecordField → List ℕ
name_of field.Version = codes "version"
name_of field.Dir = codes "dir"
name_of field.Decimal = codes "decimal"
name_of field.Group = codes "group"
name_of field.Minus = codes "minus"
name_of field.Plus = codes "plus"
name_of field.Primary = codes "primary"
name_of field.Secondary = codes "secondary"
name_of field.MinGroup = codes "minGroup"
name_of field.Plural = codes "plural"
name_of field.Ordinal = codes "ordinal"
