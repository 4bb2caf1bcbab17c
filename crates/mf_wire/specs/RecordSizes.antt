-- The bytes that the publication of a locale record counts for.
use Rattle.std.specs.Prelude.{ℕ, ◌+◌, List, length, codes, option_map}
use Rattle.std.specs.Option.{unwrap_or}
use Rattle.serde_json.specs.Data.{Data}
use Rattle.mf_edition.specs.Sizes.{byte_count, shown}
use Rattle.mf_wire.specs.Fields.{string_field}

-- the bytes of a record's text as it is given
abbrev pub text_size : List ℕ → Data → ℕ
text_size name given = unwrap_or (option_map length (string_field name given)) 0

-- the size of the publication of a record for a tag: 64 bytes, those of the tag, and those of six of the
-- record's texts
abbrev pub record_size : List ℕ → Data → ℕ
record_size tag given = shown
    (64 + byte_count tag
    + text_size (codes "decimal") given + text_size (codes "group") given
    + text_size (codes "minus") given + text_size (codes "plus") given
    + text_size (codes "plural") given + text_size (codes "ordinal") given)
