-- The grammar: which node a text spells, one case for each production, with the names of the standard (Unicode TS 35,
-- Part 9, "Message syntax"), from the smallest up to the whole message. The lexical rules `o`, `s`, `escaped-char`, `name`, `identifier` and
-- `literal` stand in mf_text.
use Rattle.std.specs.Prelude.{◌≡◌, ℕ, IsTrue, List, [], ◌∷◌, ◌++◌, map, codes, Option, Some, None, ◌⊎◌}
use Rattle.std.specs.Option.{option_map}
use Rattle.mf_text.specs.Characters.{is_text, is_simple_start}
use Rattle.mf_text.specs.Languages.{Language, Word, ◌⋅◌, ◌∣◌, Maybe, Each}
use Rattle.mf_text.specs.Grammar.{O, S, SpellsEscapedChar, SpellsName, SpellsIdentifier, SpellsLiteral}
use Rattle.mf_tree.specs.declared.name.Name.{Name}
use Rattle.mf_tree.specs.declared.name.Identifier.{Identifier}
use Rattle.mf_tree.specs.declared.expression.Operand.{Operand}
use Rattle.mf_tree.specs.declared.expression.Expression.{Expression}
use Rattle.mf_tree.specs.declared.expression.Call.{Call}
use Rattle.mf_tree.specs.declared.expression.OptionValue.{OptionValue}
use Rattle.mf_tree.specs.declared.expression.OptionNode.{OptionNode}
use Rattle.mf_tree.specs.declared.expression.Attribute.{Attribute}
use Rattle.mf_tree.specs.declared.pattern.Form.{Form}
use Rattle.mf_tree.specs.declared.pattern.Markup.{Markup}
use Rattle.mf_tree.specs.declared.pattern.Piece.{Piece}
use Rattle.mf_tree.specs.declared.message.Key.{Key}
use Rattle.mf_tree.specs.declared.message.Variant.{Variant}
use Rattle.mf_tree.specs.declared.message.Declaration.{Declaration}
use Rattle.mf_tree.specs.declared.message.Body.{Body}
use Rattle.mf_tree.specs.declared.message.Message.{Message}
use Rattle.mf_tree.specs.declared.expression.Operand.TheVariants as Operands
use Rattle.mf_tree.specs.declared.expression.OptionValue.TheVariants as OptionValues
use Rattle.mf_tree.specs.declared.pattern.Form.TheVariants as Forms
use Rattle.mf_tree.specs.declared.pattern.Piece.TheVariants as Pieces
use Rattle.mf_tree.specs.declared.message.Key.TheVariants as Keys
use Rattle.mf_tree.specs.declared.message.Declaration.TheVariants as Declarations
use Rattle.mf_tree.specs.declared.message.Body.TheVariants as Bodies

-- A rule that asks for one text at least: 1*rule
abbrev pub EachOfSome : {X : Type 0} → (X → Language) → List X → Language
EachOfSome Rule [] text = ⊥
EachOfSome Rule (x ∷ xs) text = (Rule x ⋅ Each Rule xs) text

-- identifier, as the node that it spells: a name's node has the spelling without marks, and the value that follows from it
abbrev pub SpellsIdentifierNode : Identifier → Language
SpellsIdentifierNode identifier = SpellsIdentifier (option_map (λ (name : Name). name.spelled) identifier.namespace) identifier.name.spelled

-- variable = "$" name
abbrev pub SpellsVariable : Name → Language
SpellsVariable name = Word (codes "$") ⋅ SpellsName name.spelled

-- literal / variable
abbrev pub SpellsOptionValue : OptionValue → Language
SpellsOptionValue (OptionValues.Literal value) = SpellsLiteral value
SpellsOptionValue (OptionValues.Variable name) = SpellsVariable name

-- option = identifier o "=" o (literal / variable)
abbrev pub SpellsOption : OptionNode → Language
SpellsOption node = SpellsIdentifierNode node.name ⋅ O ⋅ Word (codes "=") ⋅ O ⋅ SpellsOptionValue node.value

-- s option
abbrev pub SpellsSpacedOption : OptionNode → Language
SpellsSpacedOption node = S ⋅ SpellsOption node

-- o "=" o literal
abbrev pub SpellsAttributeValue : List ℕ → Language
SpellsAttributeValue value = O ⋅ Word (codes "=") ⋅ O ⋅ SpellsLiteral value

-- attribute = "@" identifier [o "=" o literal]
abbrev pub SpellsAttribute : Attribute → Language
SpellsAttribute attribute = Word (codes "@") ⋅ SpellsIdentifierNode attribute.name ⋅ Maybe SpellsAttributeValue attribute.value

-- s attribute
abbrev pub SpellsSpacedAttribute : Attribute → Language
SpellsSpacedAttribute attribute = S ⋅ SpellsAttribute attribute

-- function = ":" identifier *(s option)
abbrev pub SpellsFunction : Call → Language
SpellsFunction call = Word (codes ":") ⋅ SpellsIdentifierNode call.name ⋅ Each SpellsSpacedOption call.options

-- s function
abbrev pub SpellsSpacedFunction : Call → Language
SpellsSpacedFunction call = S ⋅ SpellsFunction call

-- literal-expression = "{" o literal [s function] *(s attribute) o "}"
abbrev pub SpellsLiteralExpression : List ℕ → Option Call → List Attribute → Language
SpellsLiteralExpression value function attributes =
    Word (codes "{") ⋅ O ⋅ SpellsLiteral value ⋅ Maybe SpellsSpacedFunction function ⋅ Each SpellsSpacedAttribute attributes ⋅ O ⋅ Word (codes "}")

-- variable-expression = "{" o variable [s function] *(s attribute) o "}"
abbrev pub SpellsVariableExpression : Name → Option Call → List Attribute → Language
SpellsVariableExpression name function attributes =
    Word (codes "{") ⋅ O ⋅ SpellsVariable name ⋅ Maybe SpellsSpacedFunction function ⋅ Each SpellsSpacedAttribute attributes ⋅ O ⋅ Word (codes "}")

-- function-expression = "{" o function *(s attribute) o "}"
abbrev pub SpellsFunctionExpression : Option Call → List Attribute → Language
SpellsFunctionExpression None attributes text = ⊥
SpellsFunctionExpression (Some call) attributes text =
    (Word (codes "{") ⋅ O ⋅ SpellsFunction call ⋅ Each SpellsSpacedAttribute attributes ⋅ O ⋅ Word (codes "}")) text

-- expression = literal-expression / variable-expression / function-expression
abbrev pub SpellsExpressionOf : Operand → Option Call → List Attribute → Language
SpellsExpressionOf (Operands.Literal value) function attributes = SpellsLiteralExpression value function attributes
SpellsExpressionOf (Operands.Variable name) function attributes = SpellsVariableExpression name function attributes
SpellsExpressionOf Operands.Absent function attributes = SpellsFunctionExpression function attributes

abbrev pub SpellsExpression : Expression → Language
SpellsExpression expression = SpellsExpressionOf expression.operand expression.function expression.attributes

-- markup = "{" o "#" identifier *(s option) *(s attribute) o ["/"] "}"
--        / "{" o "/" identifier *(s option) *(s attribute) o "}"
abbrev pub SpellsMarkupOf : Form → Identifier → List OptionNode → List Attribute → Language
SpellsMarkupOf Forms.Start name options attributes =
    Word (codes "{") ⋅ O ⋅ Word (codes "#") ⋅ SpellsIdentifierNode name ⋅ Each SpellsSpacedOption options ⋅ Each SpellsSpacedAttribute attributes ⋅ O ⋅ Word (codes "}")
SpellsMarkupOf Forms.Standalone name options attributes =
    Word (codes "{") ⋅ O ⋅ Word (codes "#") ⋅ SpellsIdentifierNode name ⋅ Each SpellsSpacedOption options ⋅ Each SpellsSpacedAttribute attributes ⋅ O ⋅ Word (codes "/") ⋅ Word (codes "}")
SpellsMarkupOf Forms.End name options attributes =
    Word (codes "{") ⋅ O ⋅ Word (codes "/") ⋅ SpellsIdentifierNode name ⋅ Each SpellsSpacedOption options ⋅ Each SpellsSpacedAttribute attributes ⋅ O ⋅ Word (codes "}")

abbrev pub SpellsMarkup : Markup → Language
SpellsMarkup markup = SpellsMarkupOf markup.form markup.name markup.options markup.attributes

-- placeholder = expression / markup
abbrev pub SpellsPlaceholder : Piece → Language
SpellsPlaceholder (Pieces.Text value) text = ⊥
SpellsPlaceholder (Pieces.Expression expression) text = SpellsExpression expression text
SpellsPlaceholder (Pieces.Markup markup) text = SpellsMarkup markup text

-- what a pattern is a row of: characters, plain or escaped, and placeholders
pub data Item : Type 0 where
  character : ℕ → Item
  placeholder : Piece → Item

-- text-char, which spells itself
abbrev pub SpellsTextChar : ℕ → Language
SpellsTextChar c text = (text ≡ c ∷ []) × IsTrue (is_text c)

-- text-char / escaped-char / placeholder
abbrev pub SpellsItem : Item → Language
SpellsItem (character c) = SpellsTextChar c ∣ SpellsEscapedChar c
SpellsItem (placeholder piece) = SpellsPlaceholder piece

-- pattern = *(text-char / escaped-char / placeholder)
abbrev pub SpellsItems : List Item → Language
SpellsItems items = Each SpellsItem items

-- a character joins the text that it stands before, or else is a text of its own
abbrev pub onto_text : ℕ → List Piece → List Piece
onto_text c [] = Pieces.Text (c ∷ []) ∷ []
onto_text c (Pieces.Text cs ∷ pieces) = Pieces.Text (c ∷ cs) ∷ pieces
onto_text c (Pieces.Expression expression ∷ pieces) = Pieces.Text (c ∷ []) ∷ Pieces.Expression expression ∷ pieces
onto_text c (Pieces.Markup markup ∷ pieces) = Pieces.Text (c ∷ []) ∷ Pieces.Markup markup ∷ pieces

-- the pattern of a row of items: neighbouring characters make one text
abbrev pub pattern_of : List Item → List Piece
pattern_of [] = []
pattern_of (character c ∷ items) = onto_text c (pattern_of items)
pattern_of (placeholder piece ∷ items) = piece ∷ pattern_of items

-- simple-start-char, which spells itself
abbrev pub SpellsSimpleStartChar : ℕ → Language
SpellsSimpleStartChar c text = (text ≡ c ∷ []) × IsTrue (is_simple_start c)

-- simple-start = simple-start-char / escaped-char / placeholder
abbrev pub SpellsSimpleStart : Item → Language
SpellsSimpleStart (character c) = SpellsSimpleStartChar c ∣ SpellsEscapedChar c
SpellsSimpleStart (placeholder piece) = SpellsPlaceholder piece

-- [simple-start pattern]
abbrev pub SpellsFromStart : List Item → Language
SpellsFromStart [] = Word []
SpellsFromStart (item ∷ items) = SpellsSimpleStart item ⋅ SpellsItems items

-- o, whose characters are part of the pattern
abbrev pub SpellsSpace : List ℕ → Language
SpellsSpace space text = (text ≡ space) × O text

-- simple-message = o [simple-start pattern]
pub record SpellsSimpleMessage (pattern : List Piece) (text : List ℕ) : Type 0 where
  pub space : List ℕ
  pub items : List Item
  pub meant : pattern ≡ pattern_of (map character space ++ items)
  pub spelled : (SpellsSpace space ⋅ SpellsFromStart items) text

-- quoted-pattern = "{{" pattern "}}"
pub record SpellsQuotedPattern (pattern : List Piece) (text : List ℕ) : Type 0 where
  pub items : List Item
  pub meant : pattern ≡ pattern_of items
  pub spelled : (Word (codes "{{") ⋅ SpellsItems items ⋅ Word (codes "}}")) text

-- input-declaration = ".input" o variable-expression, whose variable is the one that is declared
abbrev pub SpellsInputOf : Name → Operand → Option Call → List Attribute → Language
SpellsInputOf name (Operands.Variable operand) function attributes text = (operand ≡ name) × (Word (codes ".input") ⋅ O ⋅ SpellsVariableExpression operand function attributes) text
SpellsInputOf name (Operands.Literal value) function attributes text = ⊥
SpellsInputOf name Operands.Absent function attributes text = ⊥

abbrev pub SpellsInputDeclaration : Name → Expression → Language
SpellsInputDeclaration name expression = SpellsInputOf name expression.operand expression.function expression.attributes

-- local-declaration = ".local" s variable o "=" o expression
abbrev pub SpellsLocalDeclaration : Name → Expression → Language
SpellsLocalDeclaration name expression = Word (codes ".local") ⋅ S ⋅ SpellsVariable name ⋅ O ⋅ Word (codes "=") ⋅ O ⋅ SpellsExpression expression

-- declaration = input-declaration / local-declaration
abbrev pub SpellsDeclaration : Declaration → Language
SpellsDeclaration (Declarations.Input name expression) = SpellsInputDeclaration name expression
SpellsDeclaration (Declarations.Local name expression) = SpellsLocalDeclaration name expression

-- declaration o
abbrev pub SpellsDeclarationAndSpace : Declaration → Language
SpellsDeclarationAndSpace declaration = SpellsDeclaration declaration ⋅ O

-- key = literal / "*"
abbrev pub SpellsKey : Key → Language
SpellsKey (Keys.Literal value) = SpellsLiteral value
SpellsKey Keys.Star = Word (codes "*")

-- s key
abbrev pub SpellsSpacedKey : Key → Language
SpellsSpacedKey key = S ⋅ SpellsKey key

-- key *(s key)
abbrev pub SpellsKeys : List Key → Language
SpellsKeys [] text = ⊥
SpellsKeys (key ∷ keys) text = (SpellsKey key ⋅ Each SpellsSpacedKey keys) text

-- variant = key *(s key) o quoted-pattern
abbrev pub SpellsVariant : Variant → Language
SpellsVariant variant = SpellsKeys variant.keys ⋅ O ⋅ SpellsQuotedPattern variant.pattern

-- o variant
abbrev pub SpellsFurtherVariant : Variant → Language
SpellsFurtherVariant variant = O ⋅ SpellsVariant variant

-- variant *(o variant)
abbrev pub SpellsVariants : List Variant → Language
SpellsVariants [] text = ⊥
SpellsVariants (variant ∷ variants) text = (SpellsVariant variant ⋅ Each SpellsFurtherVariant variants) text

-- s variable
abbrev pub SpellsSelector : Name → Language
SpellsSelector name = S ⋅ SpellsVariable name

-- matcher = ".match" 1*(s variable) s variant *(o variant)
abbrev pub SpellsMatcher : List Name → List Variant → Language
SpellsMatcher selectors variants = Word (codes ".match") ⋅ EachOfSome SpellsSelector selectors ⋅ S ⋅ SpellsVariants variants

-- complex-body = quoted-pattern / matcher
abbrev pub SpellsComplexBody : Body → Language
SpellsComplexBody (Bodies.Pattern pattern) = SpellsQuotedPattern pattern
SpellsComplexBody (Bodies.Match selectors variants) = SpellsMatcher selectors variants

-- complex-message = o *(declaration o) complex-body o
abbrev pub SpellsComplexMessage : Message → Language
SpellsComplexMessage message = O ⋅ Each SpellsDeclarationAndSpace message.declarations ⋅ SpellsComplexBody message.body ⋅ O

-- a simple message has a pattern and no declarations
abbrev pub SpellsSimpleBody : Body → Language
SpellsSimpleBody (Bodies.Pattern pattern) text = SpellsSimpleMessage pattern text
SpellsSimpleBody (Bodies.Match selectors variants) text = ⊥

-- message = simple-message / complex-message
abbrev pub SpellsMessage : Message → Language
SpellsMessage message text = ((message.declarations ≡ []) × SpellsSimpleBody message.body text) ⊎ SpellsComplexMessage message text
