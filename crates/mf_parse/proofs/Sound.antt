-- What is found is spelled: of expressions and markup.
use Rattle.std.proofs.Common.{◌≡◌, ℕ, Bool, true, false, ◌==◌, Option, Some, None, List, [], ◌∷◌, refl, ap, sym, ◌∙◌, subst, inl, inr}
use Rattle.std.proofs.lemmas.Bool.{cases_Bool, cond-true, cond-false}
use Rattle.std.specs.Option.{option_map, option_and_then}
use Rattle.std.specs.Prelude.{codes, if◌then◌else◌}
use Rattle.mf_text.specs.Characters.{is_name_start}
use Rattle.mf_text.specs.Languages.{Language, Word, ◌⋅◌, Maybe, Each, Begins}
use Rattle.mf_text.specs.Grammar.{O, SpellsName, SpellsIdentifier, SpellsLiteral}
use Rattle.mf_lex.specs.Computed.{one_at, after_space, name_at, identifier_at, literal_at}
use Rattle.mf_lex.proofs.Begins.{joined}
use Rattle.mf_lex.proofs.Identifiers.{identifier_begins}
use Rattle.mf_lex.proofs.Literals.{literal_begins}
use Rattle.mf_lex.proofs.Names.{name_begins}
use Rattle.mf_tree.specs.Names.{named}
use Rattle.mf_tree.specs.Grammar.{SpellsIdentifierNode, SpellsVariable, SpellsOptionValue, SpellsOption, SpellsSpacedOption, SpellsAttributeValue, SpellsAttribute, SpellsSpacedAttribute, SpellsFunction, SpellsSpacedFunction, SpellsExpression, SpellsMarkup, SpellsPlaceholder}
use Rattle.mf_tree.specs.declared.name.Name.{Name}
use Rattle.mf_tree.specs.declared.name.Identifier.{Identifier}
use Rattle.mf_tree.specs.declared.expression.Operand.{Operand}
use Rattle.mf_tree.specs.declared.expression.Expression.{Expression}
use Rattle.mf_tree.specs.declared.expression.Call.{Call}
use Rattle.mf_tree.specs.declared.expression.OptionValue.{OptionValue}
use Rattle.mf_tree.specs.declared.expression.OptionNode.{OptionNode}
use Rattle.mf_tree.specs.declared.expression.Attribute.{Attribute}
use Rattle.mf_tree.specs.declared.pattern.Form.{Form}
use Rattle.mf_tree.specs.declared.pattern.Markup.{Markup}
use Rattle.mf_tree.specs.declared.pattern.Piece.{Piece}
use Rattle.mf_tree.specs.declared.expression.Operand.TheVariants as Operands
use Rattle.mf_tree.specs.declared.expression.OptionValue.TheVariants as OptionValues
use Rattle.mf_tree.specs.declared.pattern.Form.TheVariants as Forms
use Rattle.mf_tree.specs.declared.pattern.Piece.TheVariants as Pieces
use Rattle.mf_parse.specs.Computed.{Found, made, followed, behind, placed, is_at, is_spaced, identifier_of, identifier_node_at, variable_at, option_value_at, behind_equals, option_node, option_at, spaced_option_at, options_at, attribute_value_at, attribute_node, attribute_at, spaced_attribute_at, attributes_at, call_node, function_at, spaced_function_at, behind_brace, last_attributes_at, expression_node, rest_of_expression_at, of_variable_at, of_literal_at, of_function_at, inner_expression_at, inside, expression_at, form_at, markup_node, opening_at, closing_at, inner_placeholder_at, placeholder_at}
use Rattle.mf_parse.proofs.Finding.{followed_parts, behind_parts, made_parts, placed_parts, many_begins}
use Rattle.mf_parse.proofs.Heads.{with_character, with_space, spaced, with_equals, with_brace, last_brace, character_alone}

-- what is found at the one place or at the other
pub chosen : {X : Type 0} (test : Bool) (first second : Found X) (y : X × List ℕ) (Goal : Type 0) → (if test then first else second) ≡ Some y →
    (test ≡ true → first ≡ Some y → Goal) → (test ≡ false → second ≡ Some y → Goal) → Goal
chosen test first second y Goal h one other =
    elim (cases_Bool test) [
      | inl holds ↦ one holds (sym (cond-true test first second holds) ∙ h)
      | inr fails ↦ other fails (sym (cond-false test first second fails) ∙ h)
    ]

-- nothing is found but the place itself
pub no_value : {X : Type 0} (Rule : X → Language) (cs : List ℕ) (value : Option X) (left : List ℕ) → ◌≡◌ {A = Found (Option X)} (Some (None, cs)) (Some (value, left)) → Begins (Maybe Rule value) cs left
no_value {X = X} Rule cs value left finds =
    let same : ◌≡◌ {A = Option X × List ℕ} (None, cs) (value, left) = cc in
    subst (λ (p : Option X × List ℕ). Begins (Maybe Rule p.0) cs p.1) same (record { taken = []; whole = refl; is = refl })

twice : (place : Option (List ℕ)) (next : List ℕ → Option (List ℕ)) (left : List ℕ) → option_and_then next place ≡ Some left → (middle : List ℕ) × (place ≡ Some middle) × (next middle ≡ Some left)
twice None next left h = absurd (cc)
twice (Some middle) next left h = (middle, refl, h)

standalone_is_no_end : Forms.Standalone ≡ Forms.End → ⊥
standalone_is_no_end h = cc

start_is_no_end : Forms.Start ≡ Forms.End → ⊥
start_is_no_end h = cc

as_markup : (node : Markup) (cs left : List ℕ) → Begins (SpellsMarkup node) cs left → Begins (SpellsPlaceholder (Pieces.Markup node)) cs left
as_markup node cs left begins = record { taken = begins.taken; whole = begins.whole; is = begins.is }

as_expression : (node : Expression) (cs left : List ℕ) → Begins (SpellsExpression node) cs left → Begins (SpellsPlaceholder (Pieces.Expression node)) cs left
as_expression node cs left begins = record { taken = begins.taken; whole = begins.whole; is = begins.is }

round : (namespace : Option (List ℕ)) → option_map (λ (name : Name). name.spelled) (option_map named namespace) ≡ namespace
round None = refl
round (Some spelled) = refl

pub identifier_sound : (cs : List ℕ) (node : Identifier) (left : List ℕ) → identifier_node_at cs ≡ Some (node, left) → Begins (SpellsIdentifierNode node) cs left
unfolding identifier_at identifier_node_at
identifier_sound cs node left finds =
    let parts = made_parts identifier_of (identifier_at cs) node left finds in
    subst (λ (node : Identifier). Begins (SpellsIdentifierNode node) cs left) parts.is
    (subst (λ (namespace : Option (List ℕ)). Begins (SpellsIdentifier namespace parts.x.name) cs left) (sym (round parts.x.namespace)) (identifier_begins cs parts.x left parts.finds))

pub variable_sound : (cs : List ℕ) (node : Name) (left : List ℕ) → variable_at cs ≡ Some (node, left) → Begins (SpellsVariable node) cs left
unfolding variable_at
variable_sound cs node left finds =
    let sign = behind_parts (one_at 0x24 cs) (λ left. made named (name_at left)) (node, left) finds in
    let parts = made_parts named (name_at sign.0) node left sign.2 in
    subst (λ (node : Name). Begins (SpellsVariable node) cs left) parts.is
    (with_character 0x24 (SpellsName parts.x) cs sign.0 left sign.1 (name_begins sign.0 parts.x left parts.finds))

option_value_sound : (cs : List ℕ) (node : OptionValue) (left : List ℕ) → option_value_at cs ≡ Some (node, left) → Begins (SpellsOptionValue node) cs left
unfolding option_value_at
option_value_sound cs node left finds =
    chosen (is_at 0x24 cs) (made OptionValues.Variable (variable_at cs)) (made OptionValues.Literal (literal_at cs)) (node, left) (Begins (SpellsOptionValue node) cs left) finds
    (λ is finds.
    let parts = made_parts OptionValues.Variable (variable_at cs) node left finds in
    subst (λ (node : OptionValue). Begins (SpellsOptionValue node) cs left) parts.is (variable_sound cs parts.x left parts.finds))
    (λ is finds.
    let parts = made_parts OptionValues.Literal (literal_at cs) node left finds in
    subst (λ (node : OptionValue). Begins (SpellsOptionValue node) cs left) parts.is (literal_begins cs parts.x left parts.finds))

pub option_sound : (cs : List ℕ) (node : OptionNode) (left : List ℕ) → option_at cs ≡ Some (node, left) → Begins (SpellsOption node) cs left
unfolding option_at
option_sound cs node left finds =
    let name = followed_parts (identifier_node_at cs) (λ name left. behind (behind_equals left) (λ left. made (option_node name) (option_value_at left))) (node, left) finds in
    let sign = behind_parts (behind_equals name.0.1) (λ left. made (option_node name.0.0) (option_value_at left)) (node, left) name.2 in
    let value = made_parts (option_node name.0.0) (option_value_at sign.0) node left sign.2 in
    subst (λ (node : OptionNode). Begins (SpellsOption node) cs left) value.is
    (joined (SpellsIdentifierNode name.0.0) (O ⋅ Word (codes "=") ⋅ O ⋅ SpellsOptionValue value.x) cs name.0.1 left (identifier_sound cs name.0.0 name.0.1 name.1)
    (with_equals (SpellsOptionValue value.x) name.0.1 sign.0 left sign.1 (option_value_sound sign.0 value.x left value.finds)))

pub options_sound : (cs : List ℕ) (nodes : List OptionNode) (left : List ℕ) → options_at cs ≡ Some (nodes, left) → Begins (Each SpellsSpacedOption nodes) cs left
unfolding options_at
options_sound cs nodes left finds =
    many_begins SpellsSpacedOption (is_spaced is_name_start) spaced_option_at
    (λ cs node left some finds. spaced is_name_start (SpellsOption node) cs left some (option_sound (after_space cs) node left finds))
    cs nodes left finds

attribute_value_sound : (cs : List ℕ) (value : Option (List ℕ)) (left : List ℕ) → attribute_value_at cs ≡ Some (value, left) → Begins (Maybe SpellsAttributeValue value) cs left
unfolding attribute_value_at
attribute_value_sound cs value left finds =
    chosen (is_at 0x3D (after_space cs)) (behind (behind_equals cs) (λ left. made Some (literal_at left))) (Some (None, cs)) (value, left) (Begins (Maybe SpellsAttributeValue value) cs left) finds
    (λ is finds.
    let sign = behind_parts (behind_equals cs) (λ left. made Some (literal_at left)) (value, left) finds in
    let parts = made_parts Some (literal_at sign.0) value left sign.2 in
    subst (λ (value : Option (List ℕ)). Begins (Maybe SpellsAttributeValue value) cs left) parts.is
    (with_equals (SpellsLiteral parts.x) cs sign.0 left sign.1 (literal_begins sign.0 parts.x left parts.finds)))
    (λ is finds. no_value SpellsAttributeValue cs value left finds)

pub attribute_sound : (cs : List ℕ) (node : Attribute) (left : List ℕ) → attribute_at cs ≡ Some (node, left) → Begins (SpellsAttribute node) cs left
unfolding attribute_at
attribute_sound cs node left finds =
    let sign = behind_parts (one_at 0x40 cs) (λ left. followed (identifier_node_at left) (λ name left. made (attribute_node name) (attribute_value_at left))) (node, left) finds in
    let name = followed_parts (identifier_node_at sign.0) (λ name left. made (attribute_node name) (attribute_value_at left)) (node, left) sign.2 in
    let value = made_parts (attribute_node name.0.0) (attribute_value_at name.0.1) node left name.2 in
    subst (λ (node : Attribute). Begins (SpellsAttribute node) cs left) value.is
    (with_character 0x40 (SpellsIdentifierNode name.0.0 ⋅ Maybe SpellsAttributeValue value.x) cs sign.0 left sign.1
    (joined (SpellsIdentifierNode name.0.0) (Maybe SpellsAttributeValue value.x) sign.0 name.0.1 left (identifier_sound sign.0 name.0.0 name.0.1 name.1)
    (attribute_value_sound name.0.1 value.x left value.finds)))

pub attributes_sound : (cs : List ℕ) (nodes : List Attribute) (left : List ℕ) → attributes_at cs ≡ Some (nodes, left) → Begins (Each SpellsSpacedAttribute nodes) cs left
unfolding attributes_at
attributes_sound cs nodes left finds =
    many_begins SpellsSpacedAttribute (is_spaced (λ c. c == 0x40)) spaced_attribute_at
    (λ cs node left some finds. spaced (λ c. c == 0x40) (SpellsAttribute node) cs left some (attribute_sound (after_space cs) node left finds))
    cs nodes left finds

pub function_sound : (cs : List ℕ) (node : Call) (left : List ℕ) → function_at cs ≡ Some (node, left) → Begins (SpellsFunction node) cs left
unfolding function_at
function_sound cs node left finds =
    let sign = behind_parts (one_at 0x3A cs) (λ left. followed (identifier_node_at left) (λ name left. made (call_node name) (options_at left))) (node, left) finds in
    let name = followed_parts (identifier_node_at sign.0) (λ name left. made (call_node name) (options_at left)) (node, left) sign.2 in
    let options = made_parts (call_node name.0.0) (options_at name.0.1) node left name.2 in
    subst (λ (node : Call). Begins (SpellsFunction node) cs left) options.is
    (with_character 0x3A (SpellsIdentifierNode name.0.0 ⋅ Each SpellsSpacedOption options.x) cs sign.0 left sign.1
    (joined (SpellsIdentifierNode name.0.0) (Each SpellsSpacedOption options.x) sign.0 name.0.1 left (identifier_sound sign.0 name.0.0 name.0.1 name.1)
    (options_sound name.0.1 options.x left options.finds)))

spaced_function_sound : (cs : List ℕ) (node : Option Call) (left : List ℕ) → spaced_function_at cs ≡ Some (node, left) → Begins (Maybe SpellsSpacedFunction node) cs left
unfolding spaced_function_at
spaced_function_sound cs node left finds =
    chosen (is_spaced (λ c. c == 0x3A) cs) (made Some (function_at (after_space cs))) (Some (None, cs)) (node, left) (Begins (Maybe SpellsSpacedFunction node) cs left) finds
    (λ some finds.
    let parts = made_parts Some (function_at (after_space cs)) node left finds in
    subst (λ (node : Option Call). Begins (Maybe SpellsSpacedFunction node) cs left) parts.is
    (spaced (λ c. c == 0x3A) (SpellsFunction parts.x) cs left some (function_sound (after_space cs) parts.x left parts.finds)))
    (λ is finds. no_value SpellsSpacedFunction cs node left finds)

-- *(s attribute) o "}"
abbrev Ends : List Attribute → Language
Ends attributes = Each SpellsSpacedAttribute attributes ⋅ O ⋅ Word (codes "}")

last_attributes_sound : (cs : List ℕ) (nodes : List Attribute) (left : List ℕ) → last_attributes_at cs ≡ Some (nodes, left) → Begins (Ends nodes) cs left
unfolding last_attributes_at
last_attributes_sound cs nodes left finds =
    let attributes = followed_parts (attributes_at cs) (λ attributes left. placed attributes (behind_brace left)) (nodes, left) finds in
    let brace = placed_parts attributes.0.0 nodes (behind_brace attributes.0.1) left attributes.2 in
    subst (λ (nodes : List Attribute). Begins (Ends nodes) cs left) brace.1
    (joined (Each SpellsSpacedAttribute attributes.0.0) (O ⋅ Word (codes "}")) cs attributes.0.1 left (attributes_sound cs attributes.0.0 attributes.0.1 attributes.1) (last_brace attributes.0.1 left brace.0))

-- an expression is that of its operand, with what follows it
pub record Rest (operand : Operand) (node : Expression) (cs left : List ℕ) : Type 0 where
  pub function : Option Call
  pub attributes : List Attribute
  pub is : expression_node operand function attributes ≡ node
  pub begins : Begins (Maybe SpellsSpacedFunction function ⋅ Ends attributes) cs left

pub rest_sound : (operand : Operand) (cs : List ℕ) (node : Expression) (left : List ℕ) → rest_of_expression_at operand cs ≡ Some (node, left) → Rest operand node cs left
unfolding rest_of_expression_at
rest_sound operand cs node left finds =
    let function = followed_parts (spaced_function_at cs) (λ function left. made (expression_node operand function) (last_attributes_at left)) (node, left) finds in
    let parts = made_parts (expression_node operand function.0.0) (last_attributes_at function.0.1) node left function.2 in record {
      function = function.0.0;
      attributes = parts.x;
      is = parts.is;
      begins =
          joined (Maybe SpellsSpacedFunction function.0.0) (Ends parts.x) cs function.0.1 left (spaced_function_sound cs function.0.0 function.0.1 function.1)
          (last_attributes_sound function.0.1 parts.x left parts.finds);
    }

-- an expression whose brace and space stand before these characters
abbrev BeginsInner : Expression → List ℕ → List ℕ → Type 0
BeginsInner node cs left = (before : List ℕ) → inside before ≡ Some cs → Begins (SpellsExpression node) before left

of_variable_sound : (cs : List ℕ) (node : Expression) (left : List ℕ) → of_variable_at cs ≡ Some (node, left) → BeginsInner node cs left
unfolding of_variable_at
of_variable_sound cs node left finds before brace =
    let name = followed_parts (variable_at cs) (λ name left. rest_of_expression_at (Operands.Variable name) left) (node, left) finds in
    let rest = rest_sound (Operands.Variable name.0.0) name.0.1 node left name.2 in
    subst (λ (node : Expression). Begins (SpellsExpression node) before left) rest.is
    (with_brace (SpellsVariable name.0.0 ⋅ Maybe SpellsSpacedFunction rest.function ⋅ Ends rest.attributes) before cs left brace
    (joined (SpellsVariable name.0.0) (Maybe SpellsSpacedFunction rest.function ⋅ Ends rest.attributes) cs name.0.1 left (variable_sound cs name.0.0 name.0.1 name.1) rest.begins))

of_literal_sound : (cs : List ℕ) (node : Expression) (left : List ℕ) → of_literal_at cs ≡ Some (node, left) → BeginsInner node cs left
unfolding of_literal_at
of_literal_sound cs node left finds before brace =
    let value = followed_parts (literal_at cs) (λ value left. rest_of_expression_at (Operands.Literal value) left) (node, left) finds in
    let rest = rest_sound (Operands.Literal value.0.0) value.0.1 node left value.2 in
    subst (λ (node : Expression). Begins (SpellsExpression node) before left) rest.is
    (with_brace (SpellsLiteral value.0.0 ⋅ Maybe SpellsSpacedFunction rest.function ⋅ Ends rest.attributes) before cs left brace
    (joined (SpellsLiteral value.0.0) (Maybe SpellsSpacedFunction rest.function ⋅ Ends rest.attributes) cs value.0.1 left (literal_begins cs value.0.0 value.0.1 value.1) rest.begins))

of_function_sound : (cs : List ℕ) (node : Expression) (left : List ℕ) → of_function_at cs ≡ Some (node, left) → BeginsInner node cs left
unfolding of_function_at
of_function_sound cs node left finds before brace =
    let call = followed_parts (function_at cs) (λ call left. made (expression_node Operands.Absent (Some call)) (last_attributes_at left)) (node, left) finds in
    let parts = made_parts (expression_node Operands.Absent (Some call.0.0)) (last_attributes_at call.0.1) node left call.2 in
    subst (λ (node : Expression). Begins (SpellsExpression node) before left) parts.is
    (with_brace (SpellsFunction call.0.0 ⋅ Ends parts.x) before cs left brace
    (joined (SpellsFunction call.0.0) (Ends parts.x) cs call.0.1 left (function_sound cs call.0.0 call.0.1 call.1) (last_attributes_sound call.0.1 parts.x left parts.finds)))

inner_expression_sound : (cs : List ℕ) (node : Expression) (left : List ℕ) → inner_expression_at cs ≡ Some (node, left) → BeginsInner node cs left
unfolding inner_expression_at
inner_expression_sound cs node left finds =
    chosen (is_at 0x24 cs) (of_variable_at cs) (if is_at 0x3A cs then of_function_at cs else of_literal_at cs) (node, left) (BeginsInner node cs left) finds
    (λ is finds. of_variable_sound cs node left finds)
    (λ is finds.
    chosen (is_at 0x3A cs) (of_function_at cs) (of_literal_at cs) (node, left) (BeginsInner node cs left) finds
    (λ is finds. of_function_sound cs node left finds)
    (λ is finds. of_literal_sound cs node left finds))

pub expression_sound : (cs : List ℕ) (node : Expression) (left : List ℕ) → expression_at cs ≡ Some (node, left) → Begins (SpellsExpression node) cs left
unfolding expression_at
expression_sound cs node left finds =
    let brace = behind_parts (inside cs) inner_expression_at (node, left) finds in
    inner_expression_sound brace.0 node left brace.2 cs brace.1

-- o ["/"] "}"
abbrev EndsMarkup : Form → Language
EndsMarkup Forms.Start = O ⋅ Word (codes "}")
EndsMarkup Forms.Standalone = O ⋅ Word (codes "/") ⋅ Word (codes "}")
EndsMarkup Forms.End = O ⋅ Word (codes "}")

form_sound : (cs : List ℕ) (form : Form) (left : List ℕ) → form_at cs ≡ Some (form, left) → Begins (EndsMarkup form) cs left
unfolding form_at
form_sound cs form left finds =
    chosen (is_at 0x2F (after_space cs)) (placed Forms.Standalone (option_and_then (one_at 0x7D) (one_at 0x2F (after_space cs)))) (placed Forms.Start (behind_brace cs)) (form, left)
    (Begins (EndsMarkup form) cs left) finds
    (λ is finds.
    let parts = placed_parts Forms.Standalone form (option_and_then (one_at 0x7D) (one_at 0x2F (after_space cs))) left finds in
    let sign = twice (one_at 0x2F (after_space cs)) (one_at 0x7D) left parts.0 in
    subst (λ (form : Form). Begins (EndsMarkup form) cs left) parts.1
    (with_space (Word (codes "/") ⋅ Word (codes "}")) cs left (with_character 0x2F (Word (codes "}")) (after_space cs) sign.0 left sign.1 (character_alone 0x7D sign.0 left sign.2))))
    (λ is finds.
    let parts = placed_parts Forms.Start form (behind_brace cs) left finds in
    subst (λ (form : Form). Begins (EndsMarkup form) cs left) parts.1 (last_brace cs left parts.0))

-- markup, whose brace, space and sign stand before these characters
abbrev BeginsMarkup : ℕ → Markup → List ℕ → List ℕ → Type 0
BeginsMarkup sign node cs left = (before middle : List ℕ) → inside before ≡ Some middle → one_at sign middle ≡ Some cs → Begins (SpellsMarkup node) before left

-- the parts of markup behind its sign, with each form
parts_of : (name : Identifier) (options : List OptionNode) (attributes : List Attribute) (form : Form) (sign : ℕ) → Language
parts_of name options attributes form sign = Word (codes "{") ⋅ O ⋅ Word (sign ∷ []) ⋅ SpellsIdentifierNode name ⋅ Each SpellsSpacedOption options ⋅ Each SpellsSpacedAttribute attributes ⋅ EndsMarkup form

of_parts : (name : Identifier) (options : List OptionNode) (attributes : List Attribute) (form : Form) (sign : ℕ) (before middle cs one two three left : List ℕ) →
    inside before ≡ Some middle → one_at sign middle ≡ Some cs → Begins (SpellsIdentifierNode name) cs one → Begins (Each SpellsSpacedOption options) one two →
    Begins (Each SpellsSpacedAttribute attributes) two three → Begins (EndsMarkup form) three left → Begins (parts_of name options attributes form sign) before left
unfolding parts_of
of_parts name options attributes form sign before middle cs one two three left brace is first second third fourth =
    with_brace (Word (sign ∷ []) ⋅ SpellsIdentifierNode name ⋅ Each SpellsSpacedOption options ⋅ Each SpellsSpacedAttribute attributes ⋅ EndsMarkup form) before middle left brace
    (with_character sign (SpellsIdentifierNode name ⋅ Each SpellsSpacedOption options ⋅ Each SpellsSpacedAttribute attributes ⋅ EndsMarkup form) middle cs left is
    (joined (SpellsIdentifierNode name) (Each SpellsSpacedOption options ⋅ Each SpellsSpacedAttribute attributes ⋅ EndsMarkup form) cs one left first
    (joined (Each SpellsSpacedOption options) (Each SpellsSpacedAttribute attributes ⋅ EndsMarkup form) one two left second
    (joined (Each SpellsSpacedAttribute attributes) (EndsMarkup form) two three left third fourth))))

-- form_at gives no end
with_form : (name : Identifier) (options : List OptionNode) (attributes : List Attribute) (form : Form) (cs left before end : List ℕ) → form_at cs ≡ Some (form, left) →
    Begins (parts_of name options attributes form 0x23) before end → Begins (SpellsMarkup (markup_node name options attributes form)) before end
unfolding parts_of form_at
with_form name options attributes Forms.Start cs left before end is begins = begins
with_form name options attributes Forms.Standalone cs left before end is begins = begins
with_form name options attributes Forms.End cs left before end is begins = absurd (
    chosen (is_at 0x2F (after_space cs)) (placed Forms.Standalone (option_and_then (one_at 0x7D) (one_at 0x2F (after_space cs)))) (placed Forms.Start (behind_brace cs)) (Forms.End, left)
    ⊥ is
    (λ one finds. standalone_is_no_end ((placed_parts Forms.Standalone Forms.End (option_and_then (one_at 0x7D) (one_at 0x2F (after_space cs))) left finds).1))
    (λ other finds. start_is_no_end ((placed_parts Forms.Start Forms.End (behind_brace cs) left finds).1)))

opening_sound : (cs : List ℕ) (node : Markup) (left : List ℕ) → opening_at cs ≡ Some (node, left) → BeginsMarkup 0x23 node cs left
unfolding opening_at
opening_sound cs node left finds before middle brace sign =
    let name = followed_parts (identifier_node_at cs) (λ name left. followed (options_at left) (λ options left. followed (attributes_at left) (λ attributes left. made (markup_node name options attributes) (form_at left)))) (node, left) finds in
    let options = followed_parts (options_at name.0.1) (λ options left. followed (attributes_at left) (λ attributes left. made (markup_node name.0.0 options attributes) (form_at left))) (node, left) name.2 in
    let attributes = followed_parts (attributes_at options.0.1) (λ attributes left. made (markup_node name.0.0 options.0.0 attributes) (form_at left)) (node, left) options.2 in
    let form = made_parts (markup_node name.0.0 options.0.0 attributes.0.0) (form_at attributes.0.1) node left attributes.2 in
    subst (λ (node : Markup). Begins (SpellsMarkup node) before left) form.is
    (with_form name.0.0 options.0.0 attributes.0.0 form.x attributes.0.1 left before left form.finds
    (of_parts name.0.0 options.0.0 attributes.0.0 form.x 0x23 before middle cs name.0.1 options.0.1 attributes.0.1 left brace sign
    (identifier_sound cs name.0.0 name.0.1 name.1) (options_sound name.0.1 options.0.0 options.0.1 options.1)
    (attributes_sound options.0.1 attributes.0.0 attributes.0.1 attributes.1) (form_sound attributes.0.1 form.x left form.finds)))

closing_sound : (cs : List ℕ) (node : Markup) (left : List ℕ) → closing_at cs ≡ Some (node, left) → BeginsMarkup 0x2F node cs left
unfolding closing_at last_attributes_at parts_of
closing_sound cs node left finds before middle brace sign =
    let name = followed_parts (identifier_node_at cs) (λ name left. followed (options_at left) (λ options left. made (λ attributes. markup_node name options attributes Forms.End) (last_attributes_at left))) (node, left) finds in
    let options = followed_parts (options_at name.0.1) (λ options left. made (λ attributes. markup_node name.0.0 options attributes Forms.End) (last_attributes_at left)) (node, left) name.2 in
    let last = made_parts (λ attributes. markup_node name.0.0 options.0.0 attributes Forms.End) (last_attributes_at options.0.1) node left options.2 in
    let attributes = followed_parts (attributes_at options.0.1) (λ attributes left. placed attributes (behind_brace left)) (last.x, left) last.finds in
    let end = placed_parts attributes.0.0 last.x (behind_brace attributes.0.1) left attributes.2 in
    subst (λ (node : Markup). Begins (SpellsMarkup node) before left) (ap (λ attributes. markup_node name.0.0 options.0.0 attributes Forms.End) end.1 ∙ last.is)
    (of_parts name.0.0 options.0.0 attributes.0.0 Forms.End 0x2F before middle cs name.0.1 options.0.1 attributes.0.1 left brace sign
    (identifier_sound cs name.0.0 name.0.1 name.1) (options_sound name.0.1 options.0.0 options.0.1 options.1)
    (attributes_sound options.0.1 attributes.0.0 attributes.0.1 attributes.1) (last_brace attributes.0.1 left end.0))

-- a placeholder whose brace and space stand before these characters
abbrev BeginsPiece : Piece → List ℕ → List ℕ → Type 0
BeginsPiece node cs left = (before : List ℕ) → inside before ≡ Some cs → Begins (SpellsPlaceholder node) before left

markup_piece : (sign : ℕ) (at : List ℕ → Found Markup) → ((cs : List ℕ) (node : Markup) (left : List ℕ) → at cs ≡ Some (node, left) → BeginsMarkup sign node cs left) →
    (cs : List ℕ) (node : Piece) (left : List ℕ) → made Pieces.Markup (behind (one_at sign cs) at) ≡ Some (node, left) → BeginsPiece node cs left
markup_piece sign at sound cs node left finds before brace =
    let parts = made_parts Pieces.Markup (behind (one_at sign cs) at) node left finds in
    let is = behind_parts (one_at sign cs) at (parts.x, left) parts.finds in
    subst (λ (node : Piece). Begins (SpellsPlaceholder node) before left) parts.is
    (as_markup parts.x before left (sound is.0 parts.x left is.2 before cs brace is.1))

pub inner_placeholder_sound : (cs : List ℕ) (node : Piece) (left : List ℕ) → inner_placeholder_at cs ≡ Some (node, left) → BeginsPiece node cs left
unfolding inner_placeholder_at
inner_placeholder_sound cs node left finds =
    chosen (is_at 0x23 cs) (made Pieces.Markup (behind (one_at 0x23 cs) opening_at))
    (if is_at 0x2F cs then made Pieces.Markup (behind (one_at 0x2F cs) closing_at) else made Pieces.Expression (inner_expression_at cs)) (node, left) (BeginsPiece node cs left) finds
    (λ is finds. markup_piece 0x23 opening_at opening_sound cs node left finds)
    (λ is finds.
    chosen (is_at 0x2F cs) (made Pieces.Markup (behind (one_at 0x2F cs) closing_at)) (made Pieces.Expression (inner_expression_at cs)) (node, left) (BeginsPiece node cs left) finds
    (λ is finds. markup_piece 0x2F closing_at closing_sound cs node left finds)
    (λ is finds before brace.
    let parts = made_parts Pieces.Expression (inner_expression_at cs) node left finds in
    subst (λ (node : Piece). Begins (SpellsPlaceholder node) before left) parts.is
    (as_expression parts.x before left (inner_expression_sound cs parts.x left parts.finds before brace))))

pub placeholder_sound : (cs : List ℕ) (node : Piece) (left : List ℕ) → placeholder_at cs ≡ Some (node, left) → Begins (SpellsPlaceholder node) cs left
unfolding placeholder_at
placeholder_sound cs node left finds =
    let brace = behind_parts (inside cs) inner_placeholder_at (node, left) finds in
    inner_placeholder_sound brace.0 node left brace.2 cs brace.1
