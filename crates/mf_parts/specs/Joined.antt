-- The text of a formatted message.
use Rattle.std.specs.Prelude.{ℕ, List, [], ◌∷◌, ◌++◌, codes}
use Rattle.std.specs.List.{flat_map}
use Rattle.mf_parts.specs.declared.part.Part.{Part}
use Rattle.mf_parts.specs.declared.part.Part.TheVariants.{Text, Isolate, String, Number, Markup, Fallback}

-- a text in braces
abbrev pub in_braces : List ℕ → List ℕ
in_braces text = codes "{" ++ text ++ codes "}"

-- the characters of a part: markup shows nothing
abbrev pub part_text : Part → List ℕ
part_text (Text text) = text
part_text (Isolate mark) = mark ∷ []
part_text (String value dir forced id) = value
part_text (Number value dir forced id) = value
part_text (Markup form name options id) = []
part_text (Fallback source) = in_braces source

-- the parts joined
abbrev pub text_of : List Part → List ℕ
text_of parts = flat_map part_text parts
