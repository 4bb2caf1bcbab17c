-- The objects of the parts of a formatted message.
use Rattle.std.specs.Prelude.{ℕ, List, [], ◌∷◌, map, codes, encode_utf8, encode_utf8_all, Option, Some, None}
use Rattle.serde_json.specs.Data.{Data, array, object, Members, member, no_members}
use Rattle.serde_json.specs.View.{items_of}
use Rattle.mf_text.specs.Pairs.{in_byte_order}
use Rattle.mf_text.specs.declared.pair.Pair.{Pair}
use Rattle.mf_tree.specs.declared.pattern.Form.{Form}
use Rattle.mf_tree.specs.declared.pattern.Form.TheVariants.{Start, Standalone, End}
use Rattle.mf_parts.specs.declared.part.Part.{Part}
use Rattle.mf_parts.specs.declared.part.Part.TheVariants.{Text, Isolate, String, Number, Markup, Fallback}
use Rattle.mf_wire.specs.Members.{text_member}

-- a part that has a kind and a value
abbrev pub plain_part : List ℕ → List ℕ → Data
plain_part kind value =
    object (text_member (codes "kind") kind (text_member (codes "value") value no_members))

-- a value of this kind, behind its id where it has one
abbrev pub value_part : List ℕ → Option (List ℕ) → List ℕ → Data
value_part kind None value = plain_part kind (encode_utf8_all value)
value_part kind (Some id) value = object
    (text_member (codes "id") (encode_utf8_all id)
    (text_member (codes "kind") kind
    (text_member (codes "value") (encode_utf8_all value) no_members)))

abbrev pub form_name : Form → List ℕ
form_name Start = codes "open"
form_name Standalone = codes "standalone"
form_name End = codes "close"

-- names with their texts, each a member
abbrev pub pair_members : List Pair → Members
pair_members [] = no_members
pair_members (pair ∷ pairs) =
    text_member (encode_utf8_all pair.name) (encode_utf8_all pair.value) (pair_members pairs)

-- the options of markup, in the byte order of their names; of two with one name the later one counts
abbrev pub options_data : List Pair → Data
options_data options = object (pair_members (in_byte_order options))

-- markup, whose id stands behind its form where it has one
abbrev pub markup_part : Form → List ℕ → List Pair → Option (List ℕ) → Data
markup_part form name options None = object
    (text_member (codes "form") (form_name form)
    (text_member (codes "kind") (codes "markup")
    (text_member (codes "name") (encode_utf8_all name)
    (member (codes "options") (options_data options) no_members))))
markup_part form name options (Some id) = object
    (text_member (codes "form") (form_name form)
    (text_member (codes "id") (encode_utf8_all id)
    (text_member (codes "kind") (codes "markup")
    (text_member (codes "name") (encode_utf8_all name)
    (member (codes "options") (options_data options) no_members)))))

abbrev pub fallback_part : List ℕ → Data
fallback_part source = object
    (text_member (codes "kind") (codes "fallback")
    (text_member (codes "source") (encode_utf8_all source) no_members))

-- the object of a part
abbrev pub part_data : Part → Data
part_data (Text text) = plain_part (codes "text") (encode_utf8_all text)
part_data (Isolate mark) = plain_part (codes "isolate") (encode_utf8 mark)
part_data (String value dir forced id) = value_part (codes "string") id value
part_data (Number value dir forced id) = value_part (codes "number") id value
part_data (Markup form name options id) = markup_part form name options id
part_data (Fallback source) = fallback_part source

abbrev pub parts_data : List Part → Data
parts_data parts = array (items_of (map part_data parts))
