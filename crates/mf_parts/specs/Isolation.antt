-- Isolation of values by the default bidi strategy (Unicode TS 35, Part 9, "Handling bidirectional text").
use Rattle.std.specs.Prelude.{ℕ, Bool, true, false, List, [], ◌∷◌, Option, Some, None}
use Rattle.std.specs.List.{flat_map}
use Rattle.mf_text.specs.declared.direction.Direction.{Direction}
use Rattle.mf_text.specs.declared.direction.Direction.TheVariants.{Ltr, Rtl, Unknown}
use Rattle.mf_parts.specs.declared.part.Part.{Part}
use Rattle.mf_parts.specs.declared.part.Part.TheVariants.{Text, Isolate, String, Number, Markup, Fallback}

-- U+2066, U+2067, U+2068 and U+2069
abbrev pub left_to_right_isolate : ℕ
left_to_right_isolate = 0x2066

abbrev pub right_to_left_isolate : ℕ
right_to_left_isolate = 0x2067

abbrev pub first_strong_isolate : ℕ
first_strong_isolate = 0x2068

abbrev pub pop_directional_isolate : ℕ
pop_directional_isolate = 0x2069

-- the mark before a value of this direction in a message of that one: a left-to-right value stands as it is in a
-- left-to-right message, unless its isolation is forced
abbrev pub opening : Direction → Direction → Bool → Option ℕ
opening Ltr Ltr false = None
opening Ltr Ltr true = Some left_to_right_isolate
opening Rtl Ltr forced = Some left_to_right_isolate
opening Unknown Ltr forced = Some left_to_right_isolate
opening message Rtl forced = Some right_to_left_isolate
opening message Unknown forced = Some first_strong_isolate

-- the mark before a part in a message of this direction: a text, a mark and markup stand as they are, and a fallback has
-- unknown direction
abbrev pub part_opening : Direction → Part → Option ℕ
part_opening message (Text text) = None
part_opening message (Isolate mark) = None
part_opening message (String value dir forced id) = opening message dir forced
part_opening message (Number value dir forced id) = opening message dir forced
part_opening message (Markup form name options id) = None
part_opening message (Fallback source) = opening message Unknown false

-- a part between its marks, each a part of its own
abbrev pub between : Option ℕ → Part → List Part
between None part = part ∷ []
between (Some mark) part = Isolate mark ∷ part ∷ Isolate pop_directional_isolate ∷ []

-- a part with the marks that it gets in a message of this direction
abbrev pub isolated_part : Direction → Part → List Part
isolated_part message part = between (part_opening message part) part

-- the parts of a message of this direction, each with its marks
abbrev pub isolated : Direction → List Part → List Part
isolated message parts = flat_map (isolated_part message) parts
