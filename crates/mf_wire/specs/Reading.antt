-- The JSON value of a line (RFC 8259).
use Rattle.std.specs.Prelude.{ℕ, List, Option, None, if◌then◌else◌}
use Rattle.std.specs.Str.{is_utf8}
use Rattle.serde_json.specs.Data.{Data}
use Rattle.serde_json.specs.Read.{read}

-- the value that a line's bytes spell: none where they aren't UTF-8, or are no JSON whose arrays and
-- objects nest at most 127 deep
abbrev pub reading : List ℕ → Option Data
reading line = if is_utf8 line then read line else None
