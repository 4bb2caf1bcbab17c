-- The fields of a handler in a request.
use Rattle.std.specs.Prelude.{◌≡◌, ℕ, List, [], ◌∷◌, chars, Option, Some, None, option_map, option_and_then}
use Rattle.serde_json.specs.Data.{Data, Members, no_members, member}
use Rattle.serde_json.specs.Find.{get, as_str, as_object}
use Rattle.mf_lex.specs.Computed.{identifier_at}
use Rattle.mf_lex.specs.declared.ident.Ident.{Ident}
use Rattle.mf_text.specs.Pairs.{in_byte_order}
use Rattle.mf_text.specs.declared.pair.Pair.{Pair}
use Rattle.mf_tree.specs.Grammar.{SpellsIdentifierNode}
use Rattle.mf_tree.specs.Names.{named}
use Rattle.mf_tree.specs.declared.name.Identifier.{Identifier}
use Rattle.mf_wire.specs.Fields.{message_with, string_field}

-- the node of an identifier that is spelled so
abbrev pub identifier_node : Ident → Identifier
identifier_node ident =
    record { namespace = option_map named ident.namespace; name = named ident.name }

-- what was read, where nothing is left of the text
abbrev pub read_whole : Ident → List ℕ → Option Identifier
read_whole ident [] = Some (identifier_node ident)
read_whole ident (c ∷ left) = None

-- the identifier that a text spells, if it spells one
abbrev pub identifier_in : List ℕ → Option Identifier
identifier_in text = option_and_then (λ found. read_whole found.0 found.1) (identifier_at text)

-- it is the one of the grammar (Unicode TS 35, Part 9, "Names and identifiers")
pub record IdentifiersAreOfTheGrammar : Type 0 where
  pub spelled : (text : List ℕ) (identifier : Identifier)
      → identifier_in text ≡ Some identifier → SpellsIdentifierNode identifier text
  pub found : (text : List ℕ) (identifier : Identifier)
      → SpellsIdentifierNode identifier text → identifier_in text ≡ Some identifier

-- a field that is an identifier
abbrev pub identifier_field : List ℕ → Data → Option Identifier
identifier_field name request =
    option_and_then (λ bytes. identifier_in (chars bytes)) (string_field name request)

-- a field that is a text, as it stands
abbrev pub text_field : List ℕ → Data → Option (List ℕ)
text_field name given = option_map chars (string_field name given)

-- the texts of an object under their names, none where a member isn't a text
abbrev pub pairs_from : Members → Option (List Pair)
pairs_from no_members = Some []
pairs_from (member name value more) =
    option_and_then (λ text. option_map (λ pairs. message_with name text ∷ pairs) (pairs_from more))
    (as_str value)

-- the same in the byte order of their names
abbrev pub ordered_from : Members → Option (List Pair)
ordered_from members = option_map in_byte_order (pairs_from members)

-- an object of texts
abbrev pub texts_from : Data → Option (List Pair)
texts_from value = option_and_then ordered_from (as_object value)

-- a field that is an object of texts
abbrev pub texts_field : List ℕ → Data → Option (List Pair)
texts_field name given = option_and_then texts_from (get name given)

-- the presets of a field: none where it is missing, and the texts of an object
abbrev pub presets_of : Option Data → Option (List Pair)
presets_of None = Some []
presets_of (Some value) = texts_from value

-- the default of a field: none where it is missing, and a text
abbrev pub default_of : Option Data → Option (Option (List ℕ))
default_of None = Some None
default_of (Some value) = option_map (λ bytes. Some (chars bytes)) (as_str value)
