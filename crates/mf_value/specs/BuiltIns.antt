-- The built-in functions, by their names (Unicode TS 35, Part 9, "Default Functions").
use Rattle.std.specs.Prelude.{ℕ, List, codes, Option, Some, None, if◌then◌else◌}
use Rattle.std.specs.Str.{bytes_eq}
use Rattle.mf_value.specs.declared.built_in.BuiltIn.{BuiltIn}
use Rattle.mf_value.specs.declared.built_in.BuiltIn.TheVariants.{String, Numeric}
use Rattle.mf_value.specs.declared.number_option.NumberFunction.TheVariants.{Number, Integer}

-- the function with this name, given by the bytes of its UTF-8
abbrev pub function_named : List ℕ → Option BuiltIn
function_named name =
    if bytes_eq name (codes "string") then Some String
    else if bytes_eq name (codes "number") then Some (Numeric Number)
    else if bytes_eq name (codes "integer") then Some (Numeric Integer)
    else None
