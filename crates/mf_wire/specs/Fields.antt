-- The fields of a request's JSON object. A repeated key has the value that its reading gives it.
use Rattle.std.specs.Prelude.{ℕ, ◌&&◌, Bool, List, [], ◌∷◌, length, nat_le, chars, Option, Some, None, option_map, option_and_then, if◌then◌else◌}
use Rattle.serde_json.specs.Data.{Data, Members, no_members, member}
use Rattle.std.specs.Option.{option_or}
use Rattle.serde_json.specs.Find.{get, as_str, as_object, as_number, as_i64, as_u64}
use Rattle.serde_json.specs.Events.{members_len}
use Rattle.unicode_normalization.specs.Forms.{nfc}
use Rattle.mf_text.specs.Arguments.{with_new_argument}
use Rattle.mf_text.specs.declared.arguments.Argued.{Argued}
use Rattle.mf_text.specs.declared.arguments.Argued.TheVariants.{Text, Signed, Unsigned}
use Rattle.mf_text.specs.declared.pair.Pair.{Pair}
use Rattle.mf_edition.specs.Catalogues.{Catalogue}
use Rattle.mf_text.specs.Pairs.{in_byte_order}
use Rattle.mf_locale.specs.Tag.{is_tag, lower_case}

-- the bytes of a field that is a text
abbrev pub string_field : List ℕ → Data → Option (List ℕ)
string_field name request = option_and_then as_str (get name request)

-- the tag that a text is, its letters in lower case
abbrev pub tag_from : List ℕ → Option (List ℕ)
tag_from text = if is_tag text then Some (lower_case text) else None

-- a field that is a tag
abbrev pub tag_field : List ℕ → Data → Option (List ℕ)
tag_field name request =
    option_and_then (λ bytes. tag_from (chars bytes)) (string_field name request)

-- the object that a value is
abbrev pub object_from : Data → Option Data
object_from value = option_map (λ members. value) (as_object value)

-- a field that is an object
abbrev pub object_field : List ℕ → Data → Option Data
object_field name request = option_and_then object_from (get name request)

-- an id has from 1 to 256 bytes
abbrev pub is_id : List ℕ → Bool
is_id bytes = nat_le 1 (length bytes) && nat_le (length bytes) 256

-- the message that the bytes of an id and of a source are
abbrev pub message_with : List ℕ → List ℕ → Pair
message_with id source = record { name = chars id; value = chars source }

-- a message of a catalogue: an id, and a source that is a text
abbrev pub message_from : List ℕ → Data → Option Pair
message_from id source = if is_id id then option_map (message_with id) (as_str source) else None

-- the messages of a catalogue, none where one of them isn't a message
abbrev pub messages_from : Members → Option (List Pair)
messages_from no_members = Some []
messages_from (member id source more) =
    option_and_then (λ message. option_map (λ messages. message ∷ messages) (messages_from more))
    (message_from id source)

-- a catalogue has from 1 to 4,096 messages
abbrev pub is_catalogue_size : ℕ → Bool
is_catalogue_size count = nat_le 1 count && nat_le count 4096

-- the messages of a catalogue, where they are as many as it may have
abbrev pub catalogue_from : Members → Option (List Pair)
catalogue_from members =
    if is_catalogue_size (members_len members) then messages_from members else None

-- a field that is a catalogue
abbrev pub catalogue_field : List ℕ → Data → Option (List Pair)
catalogue_field name request =
    option_and_then catalogue_from (option_and_then as_object (get name request))

-- the messages of a catalogue with their tag, in the byte order of their ids
abbrev pub tagged : List ℕ → List Pair → Catalogue
tagged tag messages = record { tag = tag; messages = in_byte_order messages }

-- a whole number that 64 bits without a sign hold
abbrev pub whole_number : Data → Option ℕ
whole_number value = option_and_then as_u64 (as_number value)

-- a whole number as an argument: with a sign where 64 bits with a sign hold it, else without one
abbrev pub argued_number : Data → Option Argued
argued_number value =
    option_or (option_map Signed (option_and_then as_i64 (as_number value)))
    (option_map Unsigned (whole_number value))

-- the value of an argument: a text, or a whole number
abbrev pub argued_from : Data → Option Argued
argued_from value =
    option_or (option_map (λ bytes. Text (chars bytes)) (as_str value)) (argued_number value)

-- the arguments found so far and those of an object, whose names are taken in Normalization Form C (Unicode Standard
-- Annex 15), none where a member isn't an argument or two have one name
abbrev pub arguments_from : Members → List (List ℕ × Argued) → Option (List (List ℕ × Argued))
arguments_from no_members found = Some found
arguments_from (member name value more) found =
    option_and_then
    (λ argued. option_and_then (λ so_far. arguments_from more so_far)
    (with_new_argument found (nfc (chars name)) argued))
    (argued_from value)

-- the arguments of a field: none where it is missing, and those of an object
abbrev pub arguments_of : Option Data → Option (List (List ℕ × Argued))
arguments_of None = Some []
arguments_of (Some value) = option_and_then (λ members. arguments_from members []) (as_object value)

-- the least edition that a format may come from: 0 where the field is missing
abbrev pub since_of : Option Data → Option ℕ
since_of None = Some 0
since_of (Some value) = whole_number value
