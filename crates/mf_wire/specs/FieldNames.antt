-- The names of the fields of a request.
use Rattle.std.specs.Prelude.{ℕ, List, codes}
use Rattle.mf_wire.specs.declared.field.Field.{Field}
use Rattle.mf_wire.specs.declared.field.Field.TheVariants

abbrev pub field_name : Field → List ℕ
field_name TheVariants.Op = codes "op"
field_name TheVariants.Locale = codes "locale"
field_name TheVariants.Messages = codes "messages"
field_name TheVariants.Tag = codes "tag"
field_name TheVariants.Record = codes "record"
field_name TheVariants.Name = codes "name"
field_name TheVariants.Def = codes "def"
field_name TheVariants.Kind = codes "kind"
field_name TheVariants.Base = codes "base"
field_name TheVariants.Options = codes "options"
field_name TheVariants.Prefix = codes "prefix"
field_name TheVariants.Suffix = codes "suffix"
field_name TheVariants.Entries = codes "entries"
field_name TheVariants.Default = codes "default"
field_name TheVariants.Id = codes "id"
field_name TheVariants.Args = codes "args"
field_name TheVariants.Since = codes "since"
field_name TheVariants.Source = codes "source"
