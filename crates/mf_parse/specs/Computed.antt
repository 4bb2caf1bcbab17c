-- For private clauses: what each production takes of the characters that are left, computed: the node, and what is left
-- behind it, or nothing where they don't go on as the production asks. Each choice is made by the characters that come next
-- and is never taken back; the white space before them may be passed up to three times for it.
use Rattle.std.specs.Prelude.{ℕ, zero, suc, Bool, true, false, not, ◌==◌, ◌&&◌, ◌||◌, List, [], ◌∷◌, length, codes, Option, Some, None, if◌then◌else◌}
use Rattle.std.specs.Option.{option_map, option_and_then}
use Rattle.mf_text.specs.Characters.{is_ws, is_name_start, is_text}
use Rattle.mf_lex.specs.Computed.{is_next, one_at, behind_run, after_space, has_space, escaped, name_at, identifier_at, literal_at}
use Rattle.mf_lex.specs.declared.ident.Ident.{Ident}
use Rattle.mf_tree.specs.Names.{named}
use Rattle.mf_tree.specs.Grammar.{Item, character, placeholder, pattern_of}
use Rattle.mf_tree.specs.declared.name.Name.{Name}
use Rattle.mf_tree.specs.declared.name.Identifier.{Identifier}
use Rattle.mf_tree.specs.declared.expression.Operand.{Operand}
use Rattle.mf_tree.specs.declared.expression.Expression.{Expression}
use Rattle.mf_tree.specs.declared.expression.Call.{Call}
use Rattle.mf_tree.specs.declared.expression.OptionValue.{OptionValue}
use Rattle.mf_tree.specs.declared.expression.OptionNode.{OptionNode}
use Rattle.mf_tree.specs.declared.expression.Attribute.{Attribute}
use Rattle.mf_tree.specs.declared.pattern.Form.{Form}
use Rattle.mf_tree.specs.declared.pattern.Markup.{Markup}
use Rattle.mf_tree.specs.declared.pattern.Piece.{Piece}
use Rattle.mf_tree.specs.declared.message.Key.{Key}
use Rattle.mf_tree.specs.declared.message.Variant.{Variant}
use Rattle.mf_tree.specs.declared.message.Declaration.{Declaration}
use Rattle.mf_tree.specs.declared.message.Body.{Body}
use Rattle.mf_tree.specs.declared.message.Message.{Message}
use Rattle.mf_tree.specs.declared.expression.Operand.TheVariants as Operands
use Rattle.mf_tree.specs.declared.expression.OptionValue.TheVariants as OptionValues
use Rattle.mf_tree.specs.declared.pattern.Form.TheVariants as Forms
use Rattle.mf_tree.specs.declared.pattern.Piece.TheVariants as Pieces
use Rattle.mf_tree.specs.declared.message.Key.TheVariants as Keys
use Rattle.mf_tree.specs.declared.message.Declaration.TheVariants as Declarations
use Rattle.mf_tree.specs.declared.message.Body.TheVariants as Bodies

-- what is found, and the characters that are left behind it
abbrev pub Found : Type 0 → Type 0
Found X = Option (X × List ℕ)

-- what is found, made into something else
abbrev pub made : {X Y : Type 0} → (X → Y) → Found X → Found Y
made f found = option_map (λ x. (f x.0, x.1)) found

-- what is found, and then what is found behind it
abbrev pub followed : {X Y : Type 0} → Found X → (X → List ℕ → Found Y) → Found Y
followed found next = option_and_then (λ x. next x.0 x.1) found

-- nothing but a place, and then what is found there
abbrev pub behind : {Y : Type 0} → Option (List ℕ) → (List ℕ → Found Y) → Found Y
behind place next = option_and_then next place

-- one more in front of what is found
abbrev pub onto : {X : Type 0} → X → List X → List X
onto x xs = x ∷ xs

-- as many as begin so, at most this many
abbrev pub many_within : {X : Type 0} → ℕ → (List ℕ → Bool) → (List ℕ → Found X) → List ℕ → Found (List X)
many_within zero begins at cs = Some ([], cs)
many_within (suc most) begins at cs = if begins cs then followed (at cs) (λ x left. made (onto x) (many_within most begins at left)) else Some ([], cs)

-- as many as begin so
unfoldable pub many : {X : Type 0} → (List ℕ → Bool) → (List ℕ → Found X) → List ℕ → Found (List X)
many begins at cs = many_within (length cs) begins at cs

-- these characters are next
abbrev pub word_at : List ℕ → List ℕ → Option (List ℕ)
word_at [] cs = Some cs
word_at (c ∷ word) cs = option_and_then (word_at word) (one_at c cs)

-- this character is next
abbrev pub is_at : ℕ → List ℕ → Bool
is_at c cs = is_next (λ d. d == c) cs

-- a white space is next, and a character of the class behind the space
abbrev pub is_spaced : (ℕ → Bool) → List ℕ → Bool
is_spaced is_member cs = has_space cs && is_next is_member (after_space cs)

-- identifier
abbrev pub identifier_of : Ident → Identifier
identifier_of ident = record { namespace = option_map named ident.namespace; name = named ident.name }

unfoldable pub identifier_node_at : List ℕ → Found Identifier
identifier_node_at cs = made identifier_of (identifier_at cs)

-- variable
unfoldable pub variable_at : List ℕ → Found Name
variable_at cs = behind (one_at 0x24 cs) (λ left. made named (name_at left))

-- literal / variable
unfoldable pub option_value_at : List ℕ → Found OptionValue
option_value_at cs = if is_at 0x24 cs then made OptionValues.Variable (variable_at cs) else made OptionValues.Literal (literal_at cs)

-- o "=" o
unfoldable pub behind_equals : List ℕ → Option (List ℕ)
behind_equals cs = option_map after_space (one_at 0x3D (after_space cs))

abbrev pub option_node : Identifier → OptionValue → OptionNode
option_node name value = record { name = name; value = value }

-- option
unfoldable pub option_at : List ℕ → Found OptionNode
option_at cs = followed (identifier_node_at cs) (λ name left. behind (behind_equals left) (λ left. made (option_node name) (option_value_at left)))

-- *(s option)
abbrev pub spaced_option_at : List ℕ → Found OptionNode
spaced_option_at cs = option_at (after_space cs)

unfoldable pub options_at : List ℕ → Found (List OptionNode)
options_at cs = many (is_spaced is_name_start) spaced_option_at cs

-- [o "=" o literal]
unfoldable pub attribute_value_at : List ℕ → Found (Option (List ℕ))
attribute_value_at cs = if is_at 0x3D (after_space cs) then behind (behind_equals cs) (λ left. made Some (literal_at left)) else Some (None, cs)

abbrev pub attribute_node : Identifier → Option (List ℕ) → Attribute
attribute_node name value = record { name = name; value = value }

-- attribute
unfoldable pub attribute_at : List ℕ → Found Attribute
attribute_at cs = behind (one_at 0x40 cs) (λ left. followed (identifier_node_at left) (λ name left. made (attribute_node name) (attribute_value_at left)))

-- *(s attribute)
abbrev pub spaced_attribute_at : List ℕ → Found Attribute
spaced_attribute_at cs = attribute_at (after_space cs)

unfoldable pub attributes_at : List ℕ → Found (List Attribute)
attributes_at cs = many (is_spaced (λ c. c == 0x40)) spaced_attribute_at cs

abbrev pub call_node : Identifier → List OptionNode → Call
call_node name options = record { name = name; options = options }

-- function
unfoldable pub function_at : List ℕ → Found Call
function_at cs = behind (one_at 0x3A cs) (λ left. followed (identifier_node_at left) (λ name left. made (call_node name) (options_at left)))

-- [s function]
unfoldable pub spaced_function_at : List ℕ → Found (Option Call)
spaced_function_at cs = if is_spaced (λ c. c == 0x3A) cs then made Some (function_at (after_space cs)) else Some (None, cs)

-- nothing is found but a place
abbrev pub placed : {X : Type 0} → X → Option (List ℕ) → Found X
placed x place = option_map (λ left. (x, left)) place

-- o "}"
unfoldable pub behind_brace : List ℕ → Option (List ℕ)
behind_brace cs = one_at 0x7D (after_space cs)

-- *(s attribute) o "}"
unfoldable pub last_attributes_at : List ℕ → Found (List Attribute)
last_attributes_at cs = followed (attributes_at cs) (λ attributes left. placed attributes (behind_brace left))

abbrev pub expression_node : Operand → Option Call → List Attribute → Expression
expression_node operand function attributes = record { operand = operand; function = function; attributes = attributes }

-- [s function] *(s attribute) o "}"
unfoldable pub rest_of_expression_at : Operand → List ℕ → Found Expression
rest_of_expression_at operand cs = followed (spaced_function_at cs) (λ function left. made (expression_node operand function) (last_attributes_at left))

-- variable [s function] *(s attribute) o "}"
unfoldable pub of_variable_at : List ℕ → Found Expression
of_variable_at cs = followed (variable_at cs) (λ name left. rest_of_expression_at (Operands.Variable name) left)

-- literal [s function] *(s attribute) o "}"
unfoldable pub of_literal_at : List ℕ → Found Expression
of_literal_at cs = followed (literal_at cs) (λ value left. rest_of_expression_at (Operands.Literal value) left)

-- function *(s attribute) o "}"
unfoldable pub of_function_at : List ℕ → Found Expression
of_function_at cs = followed (function_at cs) (λ call left. made (expression_node Operands.Absent (Some call)) (last_attributes_at left))

-- an expression behind its brace and the space
unfoldable pub inner_expression_at : List ℕ → Found Expression
inner_expression_at cs = if is_at 0x24 cs then of_variable_at cs else if is_at 0x3A cs then of_function_at cs else of_literal_at cs

-- "{" o
unfoldable pub inside : List ℕ → Option (List ℕ)
inside cs = option_map after_space (one_at 0x7B cs)

-- expression
unfoldable pub expression_at : List ℕ → Found Expression
expression_at cs = behind (inside cs) inner_expression_at

-- o ["/"] "}"
unfoldable pub form_at : List ℕ → Found Form
form_at cs =
    if is_at 0x2F (after_space cs) then placed Forms.Standalone (option_and_then (one_at 0x7D) (one_at 0x2F (after_space cs)))
    else placed Forms.Start (behind_brace cs)

abbrev pub markup_node : Identifier → List OptionNode → List Attribute → Form → Markup
markup_node name options attributes form = record { form = form; name = name; options = options; attributes = attributes }

-- markup behind its "#"
unfoldable pub opening_at : List ℕ → Found Markup
opening_at cs = followed (identifier_node_at cs) (λ name left. followed (options_at left) (λ options left. followed (attributes_at left) (λ attributes left. made (markup_node name options attributes) (form_at left))))

-- markup behind its "/"
unfoldable pub closing_at : List ℕ → Found Markup
closing_at cs = followed (identifier_node_at cs) (λ name left. followed (options_at left) (λ options left. made (λ attributes. markup_node name options attributes Forms.End) (last_attributes_at left)))

-- a placeholder behind its brace and the space
unfoldable pub inner_placeholder_at : List ℕ → Found Piece
inner_placeholder_at cs =
    if is_at 0x23 cs then made Pieces.Markup (behind (one_at 0x23 cs) opening_at)
    else if is_at 0x2F cs then made Pieces.Markup (behind (one_at 0x2F cs) closing_at)
    else made Pieces.Expression (inner_expression_at cs)

-- placeholder
unfoldable pub placeholder_at : List ℕ → Found Piece
placeholder_at cs = behind (inside cs) inner_placeholder_at

-- text-char / escaped-char / placeholder
abbrev pub item_at : List ℕ → Found Item
item_at [] = None
item_at (c ∷ cs) = if is_text c then Some (character c, cs) else if c == 0x5C then made character (escaped cs) else made placeholder (placeholder_at (c ∷ cs))

-- a pattern goes on to the next closing brace
abbrev pub goes_on : List ℕ → Bool
goes_on cs = is_next (λ c. not (c == 0x7D)) cs

-- a text ends before a brace, and at the end
abbrev pub text_ends : List ℕ → Bool
text_ends [] = true
text_ends (c ∷ cs) = (c == 0x7B) || (c == 0x7D)

-- pattern
unfoldable pub pattern_at : List ℕ → Found (List Piece)
pattern_at cs = made pattern_of (many goes_on item_at cs)

-- quoted-pattern
unfoldable pub quoted_pattern_at : List ℕ → Found (List Piece)
quoted_pattern_at cs = behind (word_at (codes "{{") cs) (λ left. followed (pattern_at left) (λ pattern left. placed pattern (word_at (codes "}}") left)))

abbrev pub input_node : Name → Expression → Declaration
input_node name expression = Declarations.Input name expression

-- an input declaration behind its word
unfoldable pub input_at : List ℕ → Found Declaration
input_at cs = behind (inside (after_space cs)) (λ left. followed (variable_at left) (λ name left. made (input_node name) (rest_of_expression_at (Operands.Variable name) left)))

abbrev pub local_node : Name → Expression → Declaration
local_node name expression = Declarations.Local name expression

-- variable o "=" o expression
unfoldable pub local_rest : List ℕ → Found Declaration
local_rest cs = followed (variable_at cs) (λ name left. behind (behind_equals left) (λ left. made (local_node name) (expression_at left)))

-- a local declaration behind its word
unfoldable pub local_at : List ℕ → Found Declaration
local_at cs = if has_space cs then local_rest (after_space cs) else None

-- whether these characters are next
abbrev pub is_word_at : List ℕ → List ℕ → Bool
is_word_at [] cs = true
is_word_at (c ∷ word) [] = false
is_word_at (c ∷ word) (d ∷ cs) = (d == c) && is_word_at word cs

-- a declaration is next
abbrev pub begins_declaration : List ℕ → Bool
begins_declaration cs = is_word_at (codes ".input") cs || is_word_at (codes ".local") cs

-- declaration
unfoldable pub declaration_at : List ℕ → Found Declaration
declaration_at cs = if is_word_at (codes ".input") cs then behind (word_at (codes ".input") cs) input_at else behind (word_at (codes ".local") cs) local_at

-- declaration o
abbrev pub spaced_declaration_at : List ℕ → Found Declaration
spaced_declaration_at cs = followed (declaration_at cs) (λ declaration left. Some (declaration, after_space left))

unfoldable pub declarations_at : List ℕ → Found (List Declaration)
declarations_at cs = many begins_declaration spaced_declaration_at cs

-- key
unfoldable pub key_at : List ℕ → Found Key
key_at cs = if is_at 0x2A cs then placed Keys.Star (one_at 0x2A cs) else made Keys.Literal (literal_at cs)

-- a key follows where white space is next, and no brace behind it
abbrev pub begins_key : List ℕ → Bool
begins_key cs = has_space cs && not (is_at 0x7B (after_space cs))

-- s key
abbrev pub spaced_key_at : List ℕ → Found Key
spaced_key_at cs = key_at (after_space cs)

-- *(s key)
unfoldable pub further_keys_at : List ℕ → Found (List Key)
further_keys_at cs = many begins_key spaced_key_at cs

-- key *(s key)
unfoldable pub keys_at : List ℕ → Found (List Key)
keys_at cs = followed (key_at cs) (λ key left. made (onto key) (further_keys_at left))

abbrev pub variant_node : List Key → List Piece → Variant
variant_node keys pattern = record { keys = keys; pattern = pattern }

-- variant
unfoldable pub variant_at : List ℕ → Found Variant
variant_at cs = followed (keys_at cs) (λ keys left. made (variant_node keys) (quoted_pattern_at (after_space left)))

-- something follows the space
abbrev pub begins_variant : List ℕ → Bool
begins_variant cs = is_next (λ c. true) (after_space cs)

-- o variant
abbrev pub spaced_variant_at : List ℕ → Found Variant
spaced_variant_at cs = variant_at (after_space cs)

-- *(o variant)
unfoldable pub further_variants_at : List ℕ → Found (List Variant)
further_variants_at cs = many begins_variant spaced_variant_at cs

-- variant *(o variant)
unfoldable pub variants_at : List ℕ → Found (List Variant)
variants_at cs = followed (variant_at cs) (λ variant left. made (onto variant) (further_variants_at left))

-- s variable
abbrev pub spaced_variable_at : List ℕ → Found Name
spaced_variable_at cs = variable_at (after_space cs)

-- *(s variable)
unfoldable pub selectors_at : List ℕ → Found (List Name)
selectors_at cs = many (is_spaced (λ c. c == 0x24)) spaced_variable_at cs

abbrev pub match_node : List Name → List Variant → Body
match_node selectors variants = Bodies.Match selectors variants

-- s variant *(o variant), behind one selector at least
abbrev pub match_at : List Name → List ℕ → Found Body
match_at [] cs = None
match_at (name ∷ names) cs = if has_space cs then made (match_node (name ∷ names)) (variants_at (after_space cs)) else None

-- a matcher behind its word
unfoldable pub matcher_at : List ℕ → Found Body
matcher_at cs = followed (selectors_at cs) match_at

-- complex-body
unfoldable pub body_at : List ℕ → Found Body
body_at cs = if is_at 0x7B cs then made Bodies.Pattern (quoted_pattern_at cs) else behind (word_at (codes ".match") cs) matcher_at

abbrev pub message_node : List Declaration → Body → Message
message_node declarations body = record { declarations = declarations; body = body }

-- what is found, where nothing is left behind it
abbrev pub whole : {X : Type 0} → Found X → Option X
whole None = None
whole (Some (x, [])) = Some x
whole (Some (x, c ∷ cs)) = None

-- complex-message
unfoldable pub complex_at : List ℕ → Option Message
complex_at cs = whole (followed (declarations_at (after_space cs)) (λ declarations left. followed (body_at left) (λ body left. Some (message_node declarations body, after_space left))))

-- white space alone before a full stop begins no simple message
abbrev pub begins_simply : List ℕ → Bool
begins_simply cs = not (is_at 0x2E (behind_run is_ws cs))

-- simple-message
unfoldable pub simple_at : List ℕ → Option Message
simple_at cs = if begins_simply cs then whole (made (λ pattern. message_node [] (Bodies.Pattern pattern)) (pattern_at cs)) else None

-- message: a text that spells no complex one may spell a simple one
abbrev pub or_else : {X : Type 0} → Option X → Option X → Option X
or_else (Some x) other = Some x
or_else None other = other

unfoldable pub message_of : List ℕ → Option Message
message_of cs = or_else (complex_at cs) (simple_at cs)
