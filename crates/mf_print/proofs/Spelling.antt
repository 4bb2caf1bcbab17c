-- The canonical sources of expressions and markup spell them.
use Rattle.std.proofs.Common.{◌≡◌, ℕ, true, List, [], ◌∷◌, ◌++◌, Option, Some, None, codes, refl, sym, ◌∙◌, subst, inl, append_assoc}
use Rattle.std.proofs.lemmas.List.{append-nil}
use Rattle.std.specs.List.{flat_map, AllByRecursion}
use Rattle.std.specs.Option.{option_map}
use Rattle.mf_text.specs.Languages.{Language, Word, ◌⋅◌, Maybe, Each}
use Rattle.mf_text.specs.Grammar.{O, S, SpellsName, SpellsNamespace, SpellsLiteral, is_bare_name}
use Rattle.mf_tree.specs.declared.name.Name.{Name}
use Rattle.mf_tree.specs.declared.name.Identifier.{Identifier}
use Rattle.mf_tree.specs.declared.expression.Operand.{Operand}
use Rattle.mf_tree.specs.declared.expression.Expression.{Expression}
use Rattle.mf_tree.specs.declared.expression.Call.{Call}
use Rattle.mf_tree.specs.declared.expression.OptionValue.{OptionValue}
use Rattle.mf_tree.specs.declared.expression.OptionNode.{OptionNode}
use Rattle.mf_tree.specs.declared.expression.Attribute.{Attribute}
use Rattle.mf_tree.specs.declared.pattern.Form.{Form}
use Rattle.mf_tree.specs.declared.pattern.Markup.{Markup}
use Rattle.mf_tree.specs.declared.expression.Operand.TheVariants as Operands
use Rattle.mf_tree.specs.declared.expression.OptionValue.TheVariants as OptionValues
use Rattle.mf_tree.specs.declared.pattern.Form.TheVariants as Forms
use Rattle.mf_tree.specs.Nodes.{IfThere, IsName, IsIdentifier, HasNoNull, IsOptionValue, IsOption, IsAttribute, IsCall, IsOperandOf, IsExpression, IsMarkup}
use Rattle.mf_tree.specs.Grammar.{SpellsIdentifierNode, SpellsVariable, SpellsOptionValue, SpellsOption, SpellsSpacedOption, SpellsAttributeValue, SpellsAttribute, SpellsSpacedAttribute, SpellsFunction, SpellsSpacedFunction, SpellsExpressionOf, SpellsExpression, SpellsMarkup, SpellsMarkupOf, SpellsVariableExpression}
use Rattle.mf_tree.specs.Canonical.{literal_source, variable_source, namespace_source, identifier_source, option_value_source, option_source, options_source, attribute_value_source, attribute_source, attributes_source, function_source, further_function_source, expression_of_source, expression_source, opening_source, closing_source, markup_source}
use Rattle.mf_print.proofs.Escapes.{literal}

-- a text of the first rule, and one of the second
pub both : (First Second : Language) (front back : List ℕ) → First front → Second back → (First ⋅ Second) (front ++ back)
both First Second front back first second = record { front = front; back = back; whole = refl; first = first; second = second }

-- a text with no space before it
pub unspaced : (Rule : Language) (text : List ℕ) → Rule text → (O ⋅ Rule) text
unspaced Rule text spelled = record { front = []; back = text; whole = refl; first = tt; second = spelled }

-- a text behind a space
pub spaced : (Rule : Language) (text : List ℕ) → Rule text → (S ⋅ Rule) (0x20 ∷ text)
spaced Rule text spelled = record { front = 0x20 ∷ []; back = text; whole = refl; first = one_space; second = spelled } where
  one_space : S (0x20 ∷ [])
  one_space = record { front = []; back = 0x20 ∷ []; whole = refl; first = tt; second = record { front = 0x20 ∷ []; back = []; whole = refl; first = (0x20, refl, refl); second = tt } }

pub three : {X : Type 0} (a b c : List X) → a ++ b ++ c ≡ a ++ (b ++ c)
three a b c = append_assoc a b c

pub four : {X : Type 0} (a b c d : List X) → a ++ b ++ c ++ d ≡ a ++ (b ++ (c ++ d))
four a b c d = append_assoc (a ++ b) c d ∙ append_assoc a b (c ++ d)

-- a word, and a text of the rule
pub behind_word : (word : List ℕ) (Rule : Language) (text : List ℕ) → Rule text → (Word word ⋅ Rule) (word ++ text)
behind_word word Rule text spelled = both (Word word) Rule word text refl spelled

-- each member's source spells it
pub each : {X : Type 0} (Rule : X → Language) (Good : X → Type 0) (source : X → List ℕ) → ((x : X) → Good x → Rule x (source x)) →
    (xs : List X) → AllByRecursion Good xs → Each Rule xs (flat_map source xs)
each Rule Good source spells [] good = refl
each Rule Good source spells (x ∷ xs) good = both (Rule x) (Each Rule xs) (source x) (flat_map source xs) (spells x good.0) (each Rule Good source spells xs good.1)

pub name : (spelled : List ℕ) → is_bare_name spelled ≡ true → SpellsName spelled spelled
name spelled is = record {
  front = [];
  back = spelled;
  whole = refl;
  first = inl refl;
  second = record { front = spelled; back = []; whole = sym (append-nil spelled); first = (refl, is); second = inl refl };
}

namespace : (o : Option Name) → IfThere IsName o → Maybe SpellsNamespace (option_map (λ (name : Name). name.spelled) o) (namespace_source o)
namespace None is = refl
namespace (Some node) is = both (SpellsName node.spelled) (Word (0x3A ∷ [])) node.spelled (0x3A ∷ []) (name node.spelled is) refl

pub identifier : (node : Identifier) → IsIdentifier node → SpellsIdentifierNode node (identifier_source node)
identifier node is = both _ (SpellsName node.name.spelled) (namespace_source node.namespace) node.name.spelled (namespace node.namespace is.0) (name node.name.spelled is.1)

pub variable : (node : Name) → IsName node → SpellsVariable node (variable_source node)
variable node is = behind_word (codes "$") (SpellsName node.spelled) node.spelled (name node.spelled is)

option_value : (node : OptionValue) → IsOptionValue node → SpellsOptionValue node (option_value_source node)
option_value (OptionValues.Literal value) is = literal value is
option_value (OptionValues.Variable node) is = variable node is

-- o "=" o, with no space
equals : (Rule : Language) (text : List ℕ) → Rule text → (O ⋅ Word (codes "=") ⋅ O ⋅ Rule) (codes "=" ++ text)
equals Rule text spelled = unspaced (Word (codes "=") ⋅ O ⋅ Rule) (codes "=" ++ text) (behind_word (codes "=") (O ⋅ Rule) text (unspaced Rule text spelled))

spaced_option : (node : OptionNode) → IsOption node → SpellsSpacedOption node (option_source node)
spaced_option node is =
    let id = identifier_source node.name in
    let value = option_value_source node.value in
    let option : SpellsOption node (id ++ (codes "=" ++ value)) =
    both (SpellsIdentifierNode node.name) (O ⋅ Word (codes "=") ⋅ O ⋅ SpellsOptionValue node.value) id (codes "=" ++ value) (identifier node.name is.0)
    (equals (SpellsOptionValue node.value) value (option_value node.value is.1)) in
    spaced (SpellsOption node) (id ++ codes "=" ++ value) (subst (SpellsOption node) (sym (three id (codes "=") value)) option)

pub options : (nodes : List OptionNode) → AllByRecursion IsOption nodes → Each SpellsSpacedOption nodes (options_source nodes)
options nodes is = each SpellsSpacedOption IsOption option_source spaced_option nodes is

attribute_value : (o : Option (List ℕ)) → IfThere HasNoNull o → Maybe SpellsAttributeValue o (attribute_value_source o)
attribute_value None is = refl
attribute_value (Some value) is = equals (SpellsLiteral value) (literal_source value) (literal value is)

spaced_attribute : (node : Attribute) → IsAttribute node → SpellsSpacedAttribute node (attribute_source node)
spaced_attribute node is =
    let id = identifier_source node.name in
    let value = attribute_value_source node.value in
    spaced (SpellsAttribute node) (codes "@" ++ id ++ value)
    (behind_word (codes "@") (SpellsIdentifierNode node.name ⋅ Maybe SpellsAttributeValue node.value) (id ++ value)
    (both (SpellsIdentifierNode node.name) (Maybe SpellsAttributeValue node.value) id value (identifier node.name is.0) (attribute_value node.value is.1)))

pub attributes : (nodes : List Attribute) → AllByRecursion IsAttribute nodes → Each SpellsSpacedAttribute nodes (attributes_source nodes)
attributes nodes is = each SpellsSpacedAttribute IsAttribute attribute_source spaced_attribute nodes is

function : (node : Call) → IsCall node → SpellsFunction node (function_source node)
function node is =
    behind_word (codes ":") (SpellsIdentifierNode node.name ⋅ Each SpellsSpacedOption node.options) (identifier_source node.name ++ options_source node.options)
    (both (SpellsIdentifierNode node.name) (Each SpellsSpacedOption node.options) (identifier_source node.name) (options_source node.options) (identifier node.name is.0)
    (options node.options is.1))

further_function : (o : Option Call) → IfThere IsCall o → Maybe SpellsSpacedFunction o (further_function_source o)
further_function None is = refl
further_function (Some call) is = spaced (SpellsFunction call) (function_source call) (function call is)

-- "{" o what an expression is about [s function] *(s attribute) o "}"
about : (Rule : Language) (text : List ℕ) (call : Option Call) (nodes : List Attribute) → Rule text → IfThere IsCall call → AllByRecursion IsAttribute nodes →
    (Word (codes "{") ⋅ O ⋅ Rule ⋅ Maybe SpellsSpacedFunction call ⋅ Each SpellsSpacedAttribute nodes ⋅ O ⋅ Word (codes "}"))
    (codes "{" ++ text ++ further_function_source call ++ attributes_source nodes ++ codes "}")
about Rule text call nodes spelled is each =
    let f = further_function_source call in
    let a = attributes_source nodes in
    let End = Each SpellsSpacedAttribute nodes ⋅ O ⋅ Word (codes "}") in
    let inner : (Rule ⋅ Maybe SpellsSpacedFunction call ⋅ End) (text ++ (f ++ (a ++ codes "}"))) =
    both Rule (Maybe SpellsSpacedFunction call ⋅ End) text (f ++ (a ++ codes "}")) spelled
    (both (Maybe SpellsSpacedFunction call) End f (a ++ codes "}") (further_function call is)
    (both (Each SpellsSpacedAttribute nodes) (O ⋅ Word (codes "}")) a (codes "}") (attributes nodes each) (unspaced (Word (codes "}")) (codes "}") refl))) in
    behind_word (codes "{") (O ⋅ Rule ⋅ Maybe SpellsSpacedFunction call ⋅ End) (text ++ f ++ a ++ codes "}")
    (unspaced (Rule ⋅ Maybe SpellsSpacedFunction call ⋅ End) (text ++ f ++ a ++ codes "}")
    (subst (Rule ⋅ Maybe SpellsSpacedFunction call ⋅ End) (sym (four text f a (codes "}"))) inner))

pub variable_expression : (node : Name) (call : Option Call) (nodes : List Attribute) → IsName node → IfThere IsCall call → AllByRecursion IsAttribute nodes →
    SpellsVariableExpression node call nodes (expression_of_source (Operands.Variable node) call nodes)
variable_expression node call nodes is calls each = about (SpellsVariable node) (variable_source node) call nodes (variable node is) calls each

expression_of : (operand : Operand) (call : Option Call) (nodes : List Attribute) → IsOperandOf call operand → IfThere IsCall call → AllByRecursion IsAttribute nodes →
    SpellsExpressionOf operand call nodes (expression_of_source operand call nodes)
expression_of (Operands.Literal value) call nodes is calls each = about (SpellsLiteral value) (literal_source value) call nodes (literal value is) calls each
expression_of (Operands.Variable node) call nodes is calls each = variable_expression node call nodes is calls each
expression_of Operands.Absent None nodes is calls each = absurd is
expression_of Operands.Absent (Some call) nodes is calls each =
    let f = function_source call in
    let a = attributes_source nodes in
    let End = Each SpellsSpacedAttribute nodes ⋅ O ⋅ Word (codes "}") in
    let inner : (SpellsFunction call ⋅ End) (f ++ (a ++ codes "}")) =
    both (SpellsFunction call) End f (a ++ codes "}") (function call calls)
    (both (Each SpellsSpacedAttribute nodes) (O ⋅ Word (codes "}")) a (codes "}") (attributes nodes each) (unspaced (Word (codes "}")) (codes "}") refl)) in
    behind_word (codes "{") (O ⋅ SpellsFunction call ⋅ End) (f ++ a ++ codes "}")
    (unspaced (SpellsFunction call ⋅ End) (f ++ a ++ codes "}") (subst (SpellsFunction call ⋅ End) (sym (three f a (codes "}"))) inner))

pub expression : (node : Expression) → IsExpression node → SpellsExpression node (expression_source node)
expression node is = expression_of node.operand node.function node.attributes is.0 is.1 is.2

-- what markup has between its sign and its end
marked : (node : Markup) (Close : Language) (close : List ℕ) → IsMarkup node → Close close →
    (SpellsIdentifierNode node.name ⋅ Each SpellsSpacedOption node.options ⋅ Each SpellsSpacedAttribute node.attributes ⋅ Close)
    (identifier_source node.name ++ options_source node.options ++ attributes_source node.attributes ++ close)
marked node Close close is closes =
    let id = identifier_source node.name in
    let o = options_source node.options in
    let a = attributes_source node.attributes in
    let End = Each SpellsSpacedAttribute node.attributes ⋅ Close in
    subst (SpellsIdentifierNode node.name ⋅ Each SpellsSpacedOption node.options ⋅ End) (sym (four id o a close))
    (both (SpellsIdentifierNode node.name) (Each SpellsSpacedOption node.options ⋅ End) id (o ++ (a ++ close)) (identifier node.name is.0)
    (both (Each SpellsSpacedOption node.options) End o (a ++ close) (options node.options is.1)
    (both (Each SpellsSpacedAttribute node.attributes) Close a close (attributes node.attributes is.2) closes)))

-- "{" o sign
signed : (sign : List ℕ) (Rule : Language) (text : List ℕ) → Rule text → (Word (codes "{") ⋅ O ⋅ Word sign ⋅ Rule) (codes "{" ++ (sign ++ text))
signed sign Rule text spelled =
    behind_word (codes "{") (O ⋅ Word sign ⋅ Rule) (sign ++ text) (unspaced (Word sign ⋅ Rule) (sign ++ text) (behind_word sign Rule text spelled))

no_space : (O ⋅ Word (codes "}")) (codes "}")
no_space = unspaced (Word (codes "}")) (codes "}") refl

one_space : (O ⋅ Word (codes "/") ⋅ Word (codes "}")) (codes " /}")
one_space = record { front = 0x20 ∷ []; back = codes "/}"; whole = refl; first = (refl, tt); second = behind_word (codes "/") (Word (codes "}")) (codes "}") refl }

markup_of : (form : Form) (node : Markup) → IsMarkup node →
    SpellsMarkupOf form node.name node.options node.attributes
    (opening_source form ++ identifier_source node.name ++ options_source node.options ++ attributes_source node.attributes ++ closing_source form)
markup_of Forms.Start node is = signed (codes "#") _ _ (marked node (O ⋅ Word (codes "}")) (codes "}") is no_space)
markup_of Forms.Standalone node is = signed (codes "#") _ _ (marked node (O ⋅ Word (codes "/") ⋅ Word (codes "}")) (codes " /}") is one_space)
markup_of Forms.End node is = signed (codes "/") _ _ (marked node (O ⋅ Word (codes "}")) (codes "}") is no_space)

pub markup : (node : Markup) → IsMarkup node → SpellsMarkup node (markup_source node)
markup node is = markup_of node.form node is
