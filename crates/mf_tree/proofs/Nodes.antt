-- What a text spells is a node.
use Rattle.std.proofs.Common.{◌≢◌, ℕ, List, [], ◌∷◌, ◌++◌, map, Option, Some, None, subst, sym, inl, inr}
use Rattle.std.specs.List.{AllByRecursion}
use Rattle.std.specs.Option.{option_map}
use Rattle.mf_text.specs.Languages.{Language, Maybe, Each}
use Rattle.mf_text.specs.Grammar.{O, SpellsName, SpellsNamespace}
use Rattle.mf_tree.specs.declared.name.Name.{Name}
use Rattle.mf_tree.specs.declared.name.Identifier.{Identifier}
use Rattle.mf_tree.specs.declared.expression.Operand.{Operand}
use Rattle.mf_tree.specs.declared.expression.Expression.{Expression}
use Rattle.mf_tree.specs.declared.expression.Call.{Call}
use Rattle.mf_tree.specs.declared.expression.OptionValue.{OptionValue}
use Rattle.mf_tree.specs.declared.expression.OptionNode.{OptionNode}
use Rattle.mf_tree.specs.declared.expression.Attribute.{Attribute}
use Rattle.mf_tree.specs.declared.pattern.Form.{Form}
use Rattle.mf_tree.specs.declared.pattern.Piece.{Piece}
use Rattle.mf_tree.specs.declared.message.Key.{Key}
use Rattle.mf_tree.specs.declared.message.Variant.{Variant}
use Rattle.mf_tree.specs.declared.message.Declaration.{Declaration}
use Rattle.mf_tree.specs.declared.message.Body.{Body}
use Rattle.mf_tree.specs.declared.message.Message.{Message}
use Rattle.mf_tree.specs.declared.expression.Operand.TheVariants as Operands
use Rattle.mf_tree.specs.declared.expression.OptionValue.TheVariants as OptionValues
use Rattle.mf_tree.specs.declared.pattern.Form.TheVariants as Forms
use Rattle.mf_tree.specs.declared.pattern.Piece.TheVariants as Pieces
use Rattle.mf_tree.specs.declared.message.Key.TheVariants as Keys
use Rattle.mf_tree.specs.declared.message.Declaration.TheVariants as Declarations
use Rattle.mf_tree.specs.declared.message.Body.TheVariants as Bodies
use Rattle.mf_tree.specs.Nodes.{IfThere, OfSome, IsName, IsIdentifier, HasNoNull, IsOptionValue, IsOption, IsAttribute, IsCall, IsOperandOf, IsExpression, IsMarkup, IsPattern, IsInputOf, IsDeclaration, IsKey, IsVariant, IsBody, IsMessage}
use Rattle.mf_tree.specs.Grammar
use Rattle.mf_tree.specs.Grammar.{Item, character, placeholder, onto_text, pattern_of}
use Rattle.mf_tree.proofs.Characters.{literal, text_no_null, start_no_null, escapable_no_null, space_no_null}

there : {X : Type 0} (Rule : X → Language) (Good : X → Type 0) → ((x : X) (text : List ℕ) → Rule x text → Good x) →
    (o : Option X) (text : List ℕ) → Maybe Rule o text → IfThere Good o
there Rule Good good None text spelled = tt
there Rule Good good (Some x) text spelled = good x text spelled

each : {X : Type 0} (Rule : X → Language) (Good : X → Type 0) → ((x : X) (text : List ℕ) → Rule x text → Good x) →
    (xs : List X) (text : List ℕ) → Each Rule xs text → AllByRecursion Good xs
each Rule Good good [] text spelled = tt
each Rule Good good (x ∷ xs) text spelled = (good x spelled.front spelled.first, each Rule Good good xs spelled.back spelled.second)

name : (name : Name) (text : List ℕ) → SpellsName name.spelled text → IsName name
name node text spelled = spelled.second.first.1

namespace : (o : Option Name) (text : List ℕ) → Maybe SpellsNamespace (option_map (λ (name : Name). name.spelled) o) text → IfThere IsName o
namespace None text spelled = tt
namespace (Some node) text spelled = name node spelled.front spelled.first

identifier : (node : Identifier) (text : List ℕ) → Grammar.SpellsIdentifierNode node text → IsIdentifier node
identifier node text spelled = (namespace node.namespace spelled.front spelled.first, name node.name spelled.back spelled.second)

variable : (node : Name) (text : List ℕ) → Grammar.SpellsVariable node text → IsName node
variable node text spelled = name node spelled.back spelled.second

option_value : (node : OptionValue) (text : List ℕ) → Grammar.SpellsOptionValue node text → IsOptionValue node
option_value (OptionValues.Literal value) text spelled = literal value text spelled
option_value (OptionValues.Variable node) text spelled = variable node text spelled

spaced_option : (node : OptionNode) (text : List ℕ) → Grammar.SpellsSpacedOption node text → IsOption node
spaced_option node text spelled =
    let option = spelled.second in
    (identifier node.name option.front option.first, option_value node.value option.second.second.second.back option.second.second.second.second)

attribute_value : (value : List ℕ) (text : List ℕ) → Grammar.SpellsAttributeValue value text → HasNoNull value
attribute_value value text spelled = literal value spelled.second.second.back spelled.second.second.second

spaced_attribute : (node : Attribute) (text : List ℕ) → Grammar.SpellsSpacedAttribute node text → IsAttribute node
spaced_attribute node text spelled =
    let rest = spelled.second.second in (
      identifier node.name rest.front rest.first,
      there Grammar.SpellsAttributeValue HasNoNull attribute_value node.value rest.back rest.second,
    )

call : (node : Call) (text : List ℕ) → Grammar.SpellsFunction node text → IsCall node
call node text spelled =
    let rest = spelled.second in (
      identifier node.name rest.front rest.first,
      each Grammar.SpellsSpacedOption IsOption spaced_option node.options rest.back rest.second,
    )

spaced_call : (node : Call) (text : List ℕ) → Grammar.SpellsSpacedFunction node text → IsCall node
spaced_call node text spelled = call node spelled.back spelled.second

attributes : (nodes : List Attribute) (text : List ℕ) → Each Grammar.SpellsSpacedAttribute nodes text → AllByRecursion IsAttribute nodes
attributes nodes text spelled = each Grammar.SpellsSpacedAttribute IsAttribute spaced_attribute nodes text spelled

options : (nodes : List OptionNode) (text : List ℕ) → Each Grammar.SpellsSpacedOption nodes text → AllByRecursion IsOption nodes
options nodes text spelled = each Grammar.SpellsSpacedOption IsOption spaced_option nodes text spelled

-- what an expression is made of
abbrev IsMadeOf : Operand → Option Call → List Attribute → Type 0
IsMadeOf operand function nodes = IsOperandOf function operand × IfThere IsCall function × AllByRecursion IsAttribute nodes

expression_of : (operand : Operand) (function : Option Call) (nodes : List Attribute) (text : List ℕ) →
    Grammar.SpellsExpressionOf operand function nodes text → IsMadeOf operand function nodes
expression_of (Operands.Literal value) function nodes text spelled =
    let rest = spelled.second.second in (
      literal value rest.front rest.first,
      there Grammar.SpellsSpacedFunction IsCall spaced_call function rest.second.front rest.second.first,
      attributes nodes rest.second.second.front rest.second.second.first,
    )
expression_of (Operands.Variable node) function nodes text spelled =
    let rest = spelled.second.second in (
      variable node rest.front rest.first,
      there Grammar.SpellsSpacedFunction IsCall spaced_call function rest.second.front rest.second.first,
      attributes nodes rest.second.second.front rest.second.second.first,
    )
expression_of Operands.Absent None nodes text spelled = absurd spelled
expression_of Operands.Absent (Some node) nodes text spelled =
    let rest = spelled.second.second in
    (tt, call node rest.front rest.first, attributes nodes rest.second.front rest.second.first)

expression : (node : Expression) (text : List ℕ) → Grammar.SpellsExpression node text → IsExpression node
expression node text spelled = expression_of node.operand node.function node.attributes text spelled

markup_of : (form : Form) (node : Identifier) (nodes : List OptionNode) (others : List Attribute) (text : List ℕ) → Grammar.SpellsMarkupOf form node nodes others text →
    IsIdentifier node × AllByRecursion IsOption nodes × AllByRecursion IsAttribute others
markup_of Forms.Start node nodes others text spelled =
    let rest = spelled.second.second.second in
    (identifier node rest.front rest.first, options nodes rest.second.front rest.second.first, attributes others rest.second.second.front rest.second.second.first)
markup_of Forms.Standalone node nodes others text spelled =
    let rest = spelled.second.second.second in
    (identifier node rest.front rest.first, options nodes rest.second.front rest.second.first, attributes others rest.second.second.front rest.second.second.first)
markup_of Forms.End node nodes others text spelled =
    let rest = spelled.second.second.second in
    (identifier node rest.front rest.first, options nodes rest.second.front rest.second.first, attributes others rest.second.second.front rest.second.second.first)

-- what stands in a row of items: a character is any but U+0000, a placeholder no text
abbrev IsItem : Item → Type 0
IsItem (character c) = c ≢ 0
IsItem (placeholder (Pieces.Text cs)) = ⊥
IsItem (placeholder (Pieces.Expression node)) = IsExpression node
IsItem (placeholder (Pieces.Markup node)) = IsMarkup node

item_placeholder : (piece : Piece) (text : List ℕ) → Grammar.SpellsPlaceholder piece text → IsItem (placeholder piece)
item_placeholder (Pieces.Text cs) text spelled = absurd spelled
item_placeholder (Pieces.Expression node) text spelled = expression node text spelled
item_placeholder (Pieces.Markup node) text spelled = markup_of node.form node.name node.options node.attributes text spelled

item : (x : Item) (text : List ℕ) → Grammar.SpellsItem x text → IsItem x
item (character c) text (inl plain) = text_no_null c plain.1
item (character c) text (inr escape) = escapable_no_null c escape.1
item (placeholder piece) text spelled = item_placeholder piece text spelled

start : (x : Item) (text : List ℕ) → Grammar.SpellsSimpleStart x text → IsItem x
start (character c) text (inl plain) = start_no_null c plain.1
start (character c) text (inr escape) = escapable_no_null c escape.1
start (placeholder piece) text spelled = item_placeholder piece text spelled

items : (xs : List Item) (text : List ℕ) → Grammar.SpellsItems xs text → AllByRecursion IsItem xs
items xs text spelled = each Grammar.SpellsItem IsItem item xs text spelled

from_start : (xs : List Item) (text : List ℕ) → Grammar.SpellsFromStart xs text → AllByRecursion IsItem xs
from_start [] text spelled = tt
from_start (x ∷ xs) text spelled = (start x spelled.front spelled.first, items xs spelled.back spelled.second)

behind_space : (space : List ℕ) (xs : List Item) → O space → AllByRecursion IsItem xs → AllByRecursion IsItem (map character space ++ xs)
behind_space [] xs is good = good
behind_space (c ∷ space) xs is good = (space_no_null c is.0, behind_space space xs is.1 good)

onto : (c : ℕ) (pieces : List Piece) → c ≢ 0 → IsPattern pieces → IsPattern (onto_text c pieces)
onto c [] plain good = (((plain, tt), tt), tt)
onto c (Pieces.Text [] ∷ pieces) plain good = absurd good.0.0
onto c (Pieces.Text (d ∷ cs) ∷ []) plain good = (((plain, good.0.0), tt), tt)
onto c (Pieces.Text (d ∷ cs) ∷ Pieces.Text others ∷ pieces) plain good = absurd good.1
onto c (Pieces.Text (d ∷ cs) ∷ Pieces.Expression node ∷ pieces) plain good = (((plain, good.0.0), good.0.1), good.1)
onto c (Pieces.Text (d ∷ cs) ∷ Pieces.Markup node ∷ pieces) plain good = (((plain, good.0.0), good.0.1), good.1)
onto c (Pieces.Expression node ∷ pieces) plain good = (((plain, tt), good.0), good.1)
onto c (Pieces.Markup node ∷ pieces) plain good = (((plain, tt), good.0), good.1)

pattern : (xs : List Item) → AllByRecursion IsItem xs → IsPattern (pattern_of xs)
pattern [] good = (tt, tt)
pattern (character c ∷ xs) good = onto c (pattern_of xs) good.0 (pattern xs good.1)
pattern (placeholder (Pieces.Text cs) ∷ xs) good = absurd good.0
pattern (placeholder (Pieces.Expression node) ∷ xs) good = let rest = pattern xs good.1 in ((good.0, rest.0), rest.1)
pattern (placeholder (Pieces.Markup node) ∷ xs) good = let rest = pattern xs good.1 in ((good.0, rest.0), rest.1)

simple : (pieces : List Piece) (text : List ℕ) → Grammar.SpellsSimpleMessage pieces text → IsPattern pieces
simple pieces text spelled =
    let parts = spelled.spelled in
    subst IsPattern (sym spelled.meant)
    (pattern (map character spelled.space ++ spelled.items)
    (behind_space spelled.space spelled.items (subst O parts.first.0 parts.first.1) (from_start spelled.items parts.back parts.second)))

quoted : (pieces : List Piece) (text : List ℕ) → Grammar.SpellsQuotedPattern pieces text → IsPattern pieces
quoted pieces text spelled =
    let parts = spelled.spelled in
    subst IsPattern (sym spelled.meant) (pattern spelled.items (items spelled.items parts.second.front parts.second.first))

input_of : (node : Name) (operand : Operand) (function : Option Call) (nodes : List Attribute) (text : List ℕ) → Grammar.SpellsInputOf node operand function nodes text →
    IsName node × IsInputOf node operand × IsMadeOf operand function nodes
input_of node (Operands.Variable operand) function nodes text spelled =
    let made = expression_of (Operands.Variable operand) function nodes spelled.1.second.back spelled.1.second.second in
    (subst IsName spelled.0 made.0, spelled.0, made)
input_of node (Operands.Literal value) function nodes text spelled = absurd spelled
input_of node Operands.Absent function nodes text spelled = absurd spelled

declaration : (node : Declaration) (text : List ℕ) → Grammar.SpellsDeclaration node text → IsDeclaration node
declaration (Declarations.Input node value) text spelled = input_of node value.operand value.function value.attributes text spelled
declaration (Declarations.Local node value) text spelled =
    let rest = spelled.second.second in
    (variable node rest.front rest.first, expression value rest.second.second.second.back rest.second.second.second.second)

declaration_and_space : (node : Declaration) (text : List ℕ) → Grammar.SpellsDeclarationAndSpace node text → IsDeclaration node
declaration_and_space node text spelled = declaration node spelled.front spelled.first

key : (node : Key) (text : List ℕ) → Grammar.SpellsKey node text → IsKey node
key (Keys.Literal value) text spelled = literal value text spelled
key Keys.Star text spelled = tt

spaced_key : (node : Key) (text : List ℕ) → Grammar.SpellsSpacedKey node text → IsKey node
spaced_key node text spelled = key node spelled.back spelled.second

keys : (nodes : List Key) (text : List ℕ) → Grammar.SpellsKeys nodes text → OfSome IsKey nodes
keys [] text spelled = absurd spelled
keys (node ∷ nodes) text spelled = (key node spelled.front spelled.first, each Grammar.SpellsSpacedKey IsKey spaced_key nodes spelled.back spelled.second)

variant : (node : Variant) (text : List ℕ) → Grammar.SpellsVariant node text → IsVariant node
variant node text spelled = (keys node.keys spelled.front spelled.first, quoted node.pattern spelled.second.back spelled.second.second)

further_variant : (node : Variant) (text : List ℕ) → Grammar.SpellsFurtherVariant node text → IsVariant node
further_variant node text spelled = variant node spelled.back spelled.second

variants : (nodes : List Variant) (text : List ℕ) → Grammar.SpellsVariants nodes text → OfSome IsVariant nodes
variants [] text spelled = absurd spelled
variants (node ∷ nodes) text spelled =
    (variant node spelled.front spelled.first, each Grammar.SpellsFurtherVariant IsVariant further_variant nodes spelled.back spelled.second)

selector : (node : Name) (text : List ℕ) → Grammar.SpellsSelector node text → IsName node
selector node text spelled = variable node spelled.back spelled.second

selectors : (nodes : List Name) (text : List ℕ) → Grammar.EachOfSome Grammar.SpellsSelector nodes text → OfSome IsName nodes
selectors [] text spelled = absurd spelled
selectors (node ∷ nodes) text spelled = (selector node spelled.front spelled.first, each Grammar.SpellsSelector IsName selector nodes spelled.back spelled.second)

complex_body : (body : Body) (text : List ℕ) → Grammar.SpellsComplexBody body text → IsBody body
complex_body (Bodies.Pattern pieces) text spelled = quoted pieces text spelled
complex_body (Bodies.Match names nodes) text spelled =
    let rest = spelled.second in
    (selectors names rest.front rest.first, variants nodes rest.second.back rest.second.second)

simple_body : (body : Body) (text : List ℕ) → Grammar.SpellsSimpleBody body text → IsBody body
simple_body (Bodies.Pattern pieces) text spelled = simple pieces text spelled
simple_body (Bodies.Match names nodes) text spelled = absurd spelled

pub message : (node : Message) (text : List ℕ) → Grammar.SpellsMessage node text → IsMessage node
message node text (inl spelled) = (subst (AllByRecursion IsDeclaration) (sym spelled.0) tt, simple_body node.body text spelled.1)
message node text (inr spelled) = (
  each Grammar.SpellsDeclarationAndSpace IsDeclaration declaration_and_space node.declarations spelled.second.front spelled.second.first,
  complex_body node.body spelled.second.second.front spelled.second.second.first,
)
