-- Canonical source: of the texts that spell a node (Unicode TS 35, Part 9, "Message syntax") the one that is printed.
use Rattle.std.specs.Prelude.{ℕ, Bool, false, ◌==◌, List, [], ◌∷◌, ◌++◌, Option, Some, None, codes, if◌then◌else◌}
use Rattle.std.specs.List.{flat_map}
use Rattle.mf_text.specs.Characters.{Table, is_in, is_space}
use Rattle.mf_text.specs.Grammar.{is_unquoted}
use Rattle.mf_tree.specs.declared.name.Name.{Name}
use Rattle.mf_tree.specs.declared.name.Identifier.{Identifier}
use Rattle.mf_tree.specs.declared.expression.Operand.{Operand}
use Rattle.mf_tree.specs.declared.expression.Expression.{Expression}
use Rattle.mf_tree.specs.declared.expression.Call.{Call}
use Rattle.mf_tree.specs.declared.expression.OptionValue.{OptionValue}
use Rattle.mf_tree.specs.declared.expression.OptionNode.{OptionNode}
use Rattle.mf_tree.specs.declared.expression.Attribute.{Attribute}
use Rattle.mf_tree.specs.declared.pattern.Form.{Form}
use Rattle.mf_tree.specs.declared.pattern.Markup.{Markup}
use Rattle.mf_tree.specs.declared.pattern.Piece.{Piece}
use Rattle.mf_tree.specs.declared.message.Key.{Key}
use Rattle.mf_tree.specs.declared.message.Variant.{Variant}
use Rattle.mf_tree.specs.declared.message.Declaration.{Declaration}
use Rattle.mf_tree.specs.declared.message.Body.{Body}
use Rattle.mf_tree.specs.declared.message.Message.{Message}
use Rattle.mf_tree.specs.declared.expression.Operand.TheVariants as Operands
use Rattle.mf_tree.specs.declared.expression.OptionValue.TheVariants as OptionValues
use Rattle.mf_tree.specs.declared.pattern.Form.TheVariants as Forms
use Rattle.mf_tree.specs.declared.pattern.Piece.TheVariants as Pieces
use Rattle.mf_tree.specs.declared.message.Key.TheVariants as Keys
use Rattle.mf_tree.specs.declared.message.Declaration.TheVariants as Declarations
use Rattle.mf_tree.specs.declared.message.Body.TheVariants as Bodies

-- a character, behind a backslash where the table has it
abbrev pub escaped : Table → ℕ → List ℕ
escaped table c = if is_in table c then 0x5C ∷ c ∷ [] else c ∷ []

-- what is escaped in a text: the backslash and the braces
abbrev pub escaped_in_text : Table
escaped_in_text = (0x5C, 0x5C) ∷ (0x7B, 0x7B) ∷ (0x7D, 0x7D) ∷ []

-- a text of a pattern
abbrev pub text_source : List ℕ → List ℕ
text_source text = flat_map (escaped escaped_in_text) text

-- what is escaped in a quoted literal: the backslash and the bar
abbrev pub escaped_in_quotes : Table
escaped_in_quotes = (0x5C, 0x5C) ∷ (0x7C, 0x7C) ∷ []

-- a quoted literal
abbrev pub quoted_source : List ℕ → List ℕ
quoted_source value = codes "|" ++ flat_map (escaped escaped_in_quotes) value ++ codes "|"

-- a literal is quoted only where it must be
abbrev pub literal_source : List ℕ → List ℕ
literal_source value = if is_unquoted value then value else quoted_source value

-- "$", and the name as it is spelled
abbrev pub variable_source : Name → List ℕ
variable_source name = codes "$" ++ name.spelled

-- the name of the namespace, if there is one, and ":"
abbrev pub namespace_source : Option Name → List ℕ
namespace_source None = []
namespace_source (Some namespace) = namespace.spelled ++ codes ":"

-- [name ":"] name
abbrev pub identifier_source : Identifier → List ℕ
identifier_source identifier = namespace_source identifier.namespace ++ identifier.name.spelled

-- literal / variable
abbrev pub option_value_source : OptionValue → List ℕ
option_value_source (OptionValues.Literal value) = literal_source value
option_value_source (OptionValues.Variable name) = variable_source name

-- a space, and an option
abbrev pub option_source : OptionNode → List ℕ
option_source node = codes " " ++ identifier_source node.name ++ codes "=" ++ option_value_source node.value

-- each option behind a space
abbrev pub options_source : List OptionNode → List ℕ
options_source options = flat_map option_source options

-- "=", and the literal, if there is one
abbrev pub attribute_value_source : Option (List ℕ) → List ℕ
attribute_value_source None = []
attribute_value_source (Some value) = codes "=" ++ literal_source value

-- a space, and an attribute
abbrev pub attribute_source : Attribute → List ℕ
attribute_source attribute = codes " @" ++ identifier_source attribute.name ++ attribute_value_source attribute.value

-- each attribute behind a space
abbrev pub attributes_source : List Attribute → List ℕ
attributes_source attributes = flat_map attribute_source attributes

-- ":", the identifier, and each option behind a space
abbrev pub function_source : Call → List ℕ
function_source call = codes ":" ++ identifier_source call.name ++ options_source call.options

-- the function, if there is one, behind an operand
abbrev pub further_function_source : Option Call → List ℕ
further_function_source None = []
further_function_source (Some call) = codes " " ++ function_source call

-- the function, if there is one, where no operand is
abbrev pub first_function_source : Option Call → List ℕ
first_function_source None = []
first_function_source (Some call) = function_source call

-- each part after the first stands behind one space
abbrev pub expression_of_source : Operand → Option Call → List Attribute → List ℕ
expression_of_source (Operands.Literal value) function attributes =
    codes "{" ++ literal_source value ++ further_function_source function ++ attributes_source attributes ++ codes "}"
expression_of_source (Operands.Variable name) function attributes =
    codes "{" ++ variable_source name ++ further_function_source function ++ attributes_source attributes ++ codes "}"
expression_of_source Operands.Absent function attributes =
    codes "{" ++ first_function_source function ++ attributes_source attributes ++ codes "}"

-- an expression, by its operand
abbrev pub expression_source : Expression → List ℕ
expression_source expression = expression_of_source expression.operand expression.function expression.attributes

-- how markup begins
abbrev pub opening_source : Form → List ℕ
opening_source Forms.Start = codes "{#"
opening_source Forms.Standalone = codes "{#"
opening_source Forms.End = codes "{/"

-- how markup ends: a standalone one with a space and "/"
abbrev pub closing_source : Form → List ℕ
closing_source Forms.Start = codes "}"
closing_source Forms.Standalone = codes " /}"
closing_source Forms.End = codes "}"

-- markup, with each option and each attribute behind a space
abbrev pub markup_source : Markup → List ℕ
markup_source markup =
    opening_source markup.form ++ identifier_source markup.name ++ options_source markup.options ++ attributes_source markup.attributes ++ closing_source markup.form

-- a piece of a pattern
abbrev pub piece_source : Piece → List ℕ
piece_source (Pieces.Text text) = text_source text
piece_source (Pieces.Expression expression) = expression_source expression
piece_source (Pieces.Markup markup) = markup_source markup

-- the pieces in order
abbrev pub pattern_source : List Piece → List ℕ
pattern_source pieces = flat_map piece_source pieces

-- a pattern between braces
abbrev pub quoted_pattern_source : List Piece → List ℕ
quoted_pattern_source pieces = codes "{{" ++ pattern_source pieces ++ codes "}}"

-- a full stop, or one behind white space and marks of direction alone
abbrev pub begins_with_full_stop : List ℕ → Bool
begins_with_full_stop [] = false
begins_with_full_stop (c ∷ cs) = if is_space c then begins_with_full_stop cs else c == 0x2E

-- a pattern that begins so is always quoted
abbrev pub must_be_quoted : List Piece → Bool
must_be_quoted [] = false
must_be_quoted (Pieces.Text text ∷ pieces) = begins_with_full_stop text
must_be_quoted (Pieces.Expression expression ∷ pieces) = false
must_be_quoted (Pieces.Markup markup ∷ pieces) = false

-- ".input", a space, and the expression, whose operand is the variable
abbrev pub input_source : Expression → List ℕ
input_source expression = codes ".input " ++ expression_source expression

-- ".local", the variable, and the expression, with spaces between
abbrev pub local_source : Name → Expression → List ℕ
local_source name expression = codes ".local " ++ variable_source name ++ codes " = " ++ expression_source expression

-- a declaration, and a line feed
abbrev pub declaration_source : Declaration → List ℕ
declaration_source (Declarations.Input name expression) = input_source expression ++ codes "\n"
declaration_source (Declarations.Local name expression) = local_source name expression ++ codes "\n"

-- each declaration, with its line feed
abbrev pub declarations_source : List Declaration → List ℕ
declarations_source declarations = flat_map declaration_source declarations

-- a space, and a selector
abbrev pub selector_source : Name → List ℕ
selector_source name = codes " " ++ variable_source name

-- a literal, or "*"
abbrev pub key_source : Key → List ℕ
key_source (Keys.Literal value) = literal_source value
key_source Keys.Star = codes "*"

-- a space, and a key
abbrev pub further_key_source : Key → List ℕ
further_key_source key = codes " " ++ key_source key

-- one space stands between two keys
abbrev pub keys_source : List Key → List ℕ
keys_source [] = []
keys_source (key ∷ keys) = key_source key ++ flat_map further_key_source keys

-- a line feed, and a variant
abbrev pub variant_source : Variant → List ℕ
variant_source variant = codes "\n" ++ keys_source variant.keys ++ codes " " ++ quoted_pattern_source variant.pattern

-- ".match", each selector behind a space, and each variant behind a line feed
abbrev pub matcher_source : List Name → List Variant → List ℕ
matcher_source selectors variants = codes ".match" ++ flat_map selector_source selectors ++ flat_map variant_source variants

-- a body behind declarations
abbrev pub complex_body_source : Body → List ℕ
complex_body_source (Bodies.Pattern pattern) = quoted_pattern_source pattern
complex_body_source (Bodies.Match selectors variants) = matcher_source selectors variants

-- a body of its own: a pattern stands alone unless it must be quoted
abbrev pub body_source : Body → List ℕ
body_source (Bodies.Pattern pattern) = if must_be_quoted pattern then quoted_pattern_source pattern else pattern_source pattern
body_source (Bodies.Match selectors variants) = matcher_source selectors variants

-- a message without declarations is its body, any other its declarations and its body
abbrev pub message_of_source : List Declaration → Body → List ℕ
message_of_source [] body = body_source body
message_of_source (declaration ∷ declarations) body = declarations_source (declaration ∷ declarations) ++ complex_body_source body

-- the canonical source of a message
abbrev pub canonical : Message → List ℕ
canonical message = message_of_source message.declarations message.body
