-- Which values of the node types are nodes: those that some text spells (Unicode TS 35, Part 9, "Message syntax").
use Rattle.std.specs.Prelude.{◌≡◌, ◌≢◌, ℕ, IsTrue, List, [], ◌∷◌, Option, Some, None}
use Rattle.std.specs.List.{AllByRecursion}
use Rattle.mf_text.specs.Grammar.{is_bare_name}
use Rattle.mf_tree.specs.declared.name.Name.{Name}
use Rattle.mf_tree.specs.declared.name.Identifier.{Identifier}
use Rattle.mf_tree.specs.declared.expression.Operand.{Operand}
use Rattle.mf_tree.specs.declared.expression.Expression.{Expression}
use Rattle.mf_tree.specs.declared.expression.Call.{Call}
use Rattle.mf_tree.specs.declared.expression.OptionValue.{OptionValue}
use Rattle.mf_tree.specs.declared.expression.OptionNode.{OptionNode}
use Rattle.mf_tree.specs.declared.expression.Attribute.{Attribute}
use Rattle.mf_tree.specs.declared.pattern.Markup.{Markup}
use Rattle.mf_tree.specs.declared.pattern.Piece.{Piece}
use Rattle.mf_tree.specs.declared.message.Key.{Key}
use Rattle.mf_tree.specs.declared.message.Variant.{Variant}
use Rattle.mf_tree.specs.declared.message.Declaration.{Declaration}
use Rattle.mf_tree.specs.declared.message.Body.{Body}
use Rattle.mf_tree.specs.declared.message.Message.{Message}
use Rattle.mf_tree.specs.declared.expression.Operand.TheVariants as Operands
use Rattle.mf_tree.specs.declared.expression.OptionValue.TheVariants as OptionValues
use Rattle.mf_tree.specs.declared.pattern.Piece.TheVariants as Pieces
use Rattle.mf_tree.specs.declared.message.Key.TheVariants as Keys
use Rattle.mf_tree.specs.declared.message.Declaration.TheVariants as Declarations
use Rattle.mf_tree.specs.declared.message.Body.TheVariants as Bodies

-- the rule holds of what is there
abbrev pub IfThere : {X : Type 0} → (X → Type 0) → Option X → Type 0
IfThere Rule None = Unit {0}
IfThere Rule (Some x) = Rule x

-- a member at least, and the rule holds of each
abbrev pub OfSome : {X : Type 0} → (X → Type 0) → List X → Type 0
OfSome Rule [] = ⊥
OfSome Rule (x ∷ xs) = AllByRecursion Rule (x ∷ xs)

-- a name begins with a character of name-start, goes on with characters of name-char, and has no marks
abbrev pub IsName : Name → Type 0
IsName name = IsTrue (is_bare_name name.spelled)

abbrev pub IsIdentifier : Identifier → Type 0
IsIdentifier identifier = IfThere IsName identifier.namespace × IsName identifier.name

-- the characters of a text or a literal are any but U+0000
abbrev pub HasNoNull : List ℕ → Type 0
HasNoNull text = AllByRecursion (λ c. c ≢ 0) text

abbrev pub IsOptionValue : OptionValue → Type 0
IsOptionValue (OptionValues.Literal value) = HasNoNull value
IsOptionValue (OptionValues.Variable name) = IsName name

abbrev pub IsOption : OptionNode → Type 0
IsOption node = IsIdentifier node.name × IsOptionValue node.value

abbrev pub IsAttribute : Attribute → Type 0
IsAttribute attribute = IsIdentifier attribute.name × IfThere HasNoNull attribute.value

abbrev pub IsCall : Call → Type 0
IsCall call = IsIdentifier call.name × AllByRecursion IsOption call.options

-- an expression has an operand or a function
abbrev pub IsOperandOf : Option Call → Operand → Type 0
IsOperandOf function (Operands.Literal value) = HasNoNull value
IsOperandOf function (Operands.Variable name) = IsName name
IsOperandOf None Operands.Absent = ⊥
IsOperandOf (Some call) Operands.Absent = Unit {0}

abbrev pub IsExpression : Expression → Type 0
IsExpression expression = IsOperandOf expression.function expression.operand × IfThere IsCall expression.function × AllByRecursion IsAttribute expression.attributes

abbrev pub IsMarkup : Markup → Type 0
IsMarkup markup = IsIdentifier markup.name × AllByRecursion IsOption markup.options × AllByRecursion IsAttribute markup.attributes

-- a text isn't empty
abbrev pub IsPiece : Piece → Type 0
IsPiece (Pieces.Text []) = ⊥
IsPiece (Pieces.Text (c ∷ cs)) = HasNoNull (c ∷ cs)
IsPiece (Pieces.Expression expression) = IsExpression expression
IsPiece (Pieces.Markup markup) = IsMarkup markup

-- no two texts stand side by side
abbrev pub AreApart : List Piece → Type 0
AreApart [] = Unit {0}
AreApart (Pieces.Expression expression ∷ pieces) = AreApart pieces
AreApart (Pieces.Markup markup ∷ pieces) = AreApart pieces
AreApart (Pieces.Text cs ∷ []) = Unit {0}
AreApart (Pieces.Text cs ∷ Pieces.Text others ∷ pieces) = ⊥
AreApart (Pieces.Text cs ∷ Pieces.Expression expression ∷ pieces) = AreApart pieces
AreApart (Pieces.Text cs ∷ Pieces.Markup markup ∷ pieces) = AreApart pieces

abbrev pub IsPattern : List Piece → Type 0
IsPattern pieces = AllByRecursion IsPiece pieces × AreApart pieces

-- the expression of an input declaration has its own name as operand
abbrev pub IsInputOf : Name → Operand → Type 0
IsInputOf name (Operands.Variable operand) = operand ≡ name
IsInputOf name (Operands.Literal value) = ⊥
IsInputOf name Operands.Absent = ⊥

abbrev pub IsDeclaration : Declaration → Type 0
IsDeclaration (Declarations.Input name expression) = IsName name × IsInputOf name expression.operand × IsExpression expression
IsDeclaration (Declarations.Local name expression) = IsName name × IsExpression expression

abbrev pub IsKey : Key → Type 0
IsKey (Keys.Literal value) = HasNoNull value
IsKey Keys.Star = Unit {0}

-- a variant has a key at least
abbrev pub IsVariant : Variant → Type 0
IsVariant variant = OfSome IsKey variant.keys × IsPattern variant.pattern

-- a matcher has a selector and a variant at least
abbrev pub IsBody : Body → Type 0
IsBody (Bodies.Pattern pattern) = IsPattern pattern
IsBody (Bodies.Match selectors variants) = OfSome IsName selectors × OfSome IsVariant variants

abbrev pub IsMessage : Message → Type 0
IsMessage message = AllByRecursion IsDeclaration message.declarations × IsBody message.body
