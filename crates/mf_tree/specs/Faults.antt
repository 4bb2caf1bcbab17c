-- What makes a message invalid: for each class of error the list of all its occurrences, in source order (Unicode TS 35,
-- Part 9, "Data Model Errors"; the order of the classes and what an error is about are this project's own).
use Rattle.std.specs.Prelude.{◌≡◌, ◌==◌, ◌+◌, ◌&&◌, ◌||◌, ℕ, zero, suc, Bool, true, false, not, if◌then◌else◌, List, [], ◌∷◌, ◌++◌, length, map, filter, find, codes, Option, Some, None}
use Rattle.std.specs.Fmt.{decimal}
use Rattle.std.specs.List.{list_all, list_any, flat_map}
use Rattle.mf_tree.specs.declared.name.Name.{Name}
use Rattle.mf_tree.specs.declared.name.Identifier.{Identifier}
use Rattle.mf_tree.specs.declared.expression.Operand.{Operand}
use Rattle.mf_tree.specs.declared.expression.Expression.{Expression}
use Rattle.mf_tree.specs.declared.expression.Call.{Call}
use Rattle.mf_tree.specs.declared.expression.OptionValue.{OptionValue}
use Rattle.mf_tree.specs.declared.expression.OptionNode.{OptionNode}
use Rattle.mf_tree.specs.declared.pattern.Piece.{Piece}
use Rattle.mf_tree.specs.declared.message.Variant.{Variant}
use Rattle.mf_tree.specs.declared.message.Declaration.{Declaration}
use Rattle.mf_tree.specs.declared.message.Body.{Body}
use Rattle.mf_tree.specs.declared.message.Message.{Message}
use Rattle.mf_tree.specs.declared.fault.Kind.{Kind}
use Rattle.mf_tree.specs.declared.fault.Fault.{Fault}
use Rattle.mf_tree.specs.declared.expression.Operand.TheVariants as Operands
use Rattle.mf_tree.specs.declared.expression.OptionValue.TheVariants as OptionValues
use Rattle.mf_tree.specs.declared.pattern.Piece.TheVariants as Pieces
use Rattle.mf_tree.specs.declared.message.Declaration.TheVariants as Declarations
use Rattle.mf_tree.specs.declared.message.Body.TheVariants as Bodies
use Rattle.mf_tree.specs.declared.fault.Kind.TheVariants as Kinds
use Rattle.mf_tree.specs.Equality.{is_same_name, is_same_identifier, is_same_keys, is_star}

-- What an error is about.

-- a variable is shown as `$name`
abbrev pub variable_text : Name → List ℕ
variable_text name = codes "$" ++ name.value

abbrev pub namespace_text : Option Name → List ℕ
namespace_text None = []
namespace_text (Some name) = name.value ++ codes ":"

-- an identifier is shown as `namespace:name`, or as `name`
abbrev pub identifier_text : Identifier → List ℕ
identifier_text identifier = namespace_text identifier.namespace ++ identifier.name.value

-- A member of a list, with the members that stand before it.
pub record Member (X : Type 0) : Type 0 where
  pub earlier : List X
  pub this : X

abbrev pub members_from : {X : Type 0} → List X → List X → List (Member X)
members_from earlier [] = []
members_from earlier (x ∷ xs) = record { earlier = earlier; this = x } ∷ members_from (earlier ++ x ∷ []) xs

abbrev pub members : {X : Type 0} → List X → List (Member X)
members xs = members_from [] xs

-- a member's number, counted from 1
abbrev pub number_text : {X : Type 0} → Member X → List ℕ
number_text member = decimal (length member.earlier + 1)

-- an error of a class for each member that passes a test
abbrev pub faults_where : {X : Type 0} → Kind → (X → Bool) → (X → List ℕ) → List X → List Fault
faults_where kind test about xs = map (λ x. record { kind = kind; of = about x }) (filter test xs)

-- What a message has.

abbrev pub name_of : Declaration → Name
name_of (Declarations.Input name expression) = name
name_of (Declarations.Local name expression) = name

abbrev pub expression_of : Declaration → Expression
expression_of (Declarations.Input name expression) = expression
expression_of (Declarations.Local name expression) = expression

-- the options of a function, if there is one
abbrev pub call_options : Option Call → List OptionNode
call_options None = []
call_options (Some call) = call.options

abbrev pub declaration_options : Declaration → List OptionNode
declaration_options declaration = call_options (expression_of declaration).function

-- the options in a piece: of a function, or of markup
abbrev pub piece_options : Piece → List OptionNode
piece_options (Pieces.Text text) = []
piece_options (Pieces.Expression expression) = call_options expression.function
piece_options (Pieces.Markup markup) = markup.options

abbrev pub pattern_options : List Piece → List (List OptionNode)
pattern_options pieces = map piece_options pieces

abbrev pub variant_options : Variant → List (List OptionNode)
variant_options variant = pattern_options variant.pattern

abbrev pub body_options : Body → List (List OptionNode)
body_options (Bodies.Pattern pattern) = pattern_options pattern
body_options (Bodies.Match selectors variants) = flat_map variant_options variants

-- the lists of options of all functions and all markup, in source order
abbrev pub all_options : Message → List (List OptionNode)
all_options message = map declaration_options message.declarations ++ body_options message.body

-- Where a variable appears.

abbrev pub is_in_operand : Name → Operand → Bool
is_in_operand name Operands.Absent = false
is_in_operand name (Operands.Literal value) = false
is_in_operand name (Operands.Variable operand) = is_same_name name operand

abbrev pub is_in_value : Name → OptionValue → Bool
is_in_value name (OptionValues.Literal value) = false
is_in_value name (OptionValues.Variable variable) = is_same_name name variable

abbrev pub is_in_options : Name → List OptionNode → Bool
is_in_options name options = list_any (λ (option : OptionNode). is_in_value name option.value) options

-- attributes hold no variables
abbrev pub is_in_expression : Name → Expression → Bool
is_in_expression name expression = is_in_operand name expression.operand || is_in_options name (call_options expression.function)

-- anywhere in a declaration: as the variable that it binds, or in its expression
abbrev pub is_in_declaration : Name → Declaration → Bool
is_in_declaration name declaration = is_same_name name (name_of declaration) || is_in_expression name (expression_of declaration)

-- variant-key-mismatch: a variant's number of keys isn't the number of selectors

abbrev pub has_key_for_each : List Name → Variant → Bool
has_key_for_each selectors variant = length variant.keys == length selectors

abbrev pub variant_key_mismatches : List Name → List Variant → List Fault
variant_key_mismatches selectors variants =
    faults_where Kinds.VariantKeyMismatch (λ (variant : Member Variant). not (has_key_for_each selectors variant.this)) number_text (members variants)

-- missing-fallback-variant: no variant has as many keys as there are selectors and all of them `*`

abbrev pub is_fallback : List Name → Variant → Bool
is_fallback selectors variant = has_key_for_each selectors variant && list_all is_star variant.keys

abbrev pub missing_fallback_variants : List Name → List Variant → List Fault
missing_fallback_variants selectors variants =
    if list_any (is_fallback selectors) variants then [] else (record { kind = Kinds.MissingFallbackVariant; of = [] } ∷ [])

-- missing-selector-annotation: a selector isn't annotated

-- the first declaration that binds a variable
abbrev pub first_declaration : List Declaration → Name → Option Declaration
first_declaration declarations name = find (λ declaration. is_same_name name (name_of declaration)) declarations

-- the expression has a function
abbrev pub HasFunction : Expression → Type 0
HasFunction expression = (call : Call) × (expression.function ≡ Some call)

-- the expression is that variable without a function
abbrev pub IsVariable : Name → Expression → Type 0
IsVariable name expression = (expression.operand ≡ Operands.Variable name) × (expression.function ≡ None)

-- a variable is annotated where its first declaration has a function, or where that declaration is a `.local` without a
-- function whose operand is an annotated variable; no other is, so that a circle of declarations isn't annotated
pub data IsAnnotated (declarations : List Declaration) : Name → Type 0 where
  annotated_by_function : (name : Name) (first : Declaration) → first_declaration declarations name ≡ Some first →
      HasFunction (expression_of first) → IsAnnotated declarations name
  annotated_by_operand : (name bound operand : Name) (expression : Expression) → first_declaration declarations name ≡ Some (Declarations.Local bound expression) →
      IsVariable operand expression → IsAnnotated declarations operand → IsAnnotated declarations name

-- the same as a test: whether the variable is annotated by at most so many declarations, one after the other

abbrev pub is_annotating_operand : (Name → Bool) → Operand → Bool
is_annotating_operand known Operands.Absent = false
is_annotating_operand known (Operands.Literal value) = false
is_annotating_operand known (Operands.Variable operand) = known operand

abbrev pub is_annotating_call : Option Call → Bool → Bool
is_annotating_call None otherwise = otherwise
is_annotating_call (Some call) otherwise = true

abbrev pub is_annotating : (Name → Bool) → Option Declaration → Bool
is_annotating known None = false
is_annotating known (Some (Declarations.Input name expression)) = is_annotating_call expression.function false
is_annotating known (Some (Declarations.Local name expression)) = is_annotating_call expression.function (is_annotating_operand known expression.operand)

abbrev pub is_annotated_within : List Declaration → ℕ → Name → Bool
is_annotated_within declarations zero name = false
is_annotated_within declarations (suc most) name = is_annotating (is_annotated_within declarations most) (first_declaration declarations name)

-- no more are needed than there are
abbrev pub is_annotated : List Declaration → Name → Bool
is_annotated declarations name = is_annotated_within declarations (length declarations) name

abbrev pub missing_selector_annotations : List Declaration → List Name → List Fault
missing_selector_annotations declarations selectors =
    faults_where Kinds.MissingSelectorAnnotation (λ selector. not (is_annotated declarations selector)) variable_text selectors

-- duplicate-declaration: a declaration binds a variable that an earlier declaration binds, or that appears anywhere in an
-- earlier declaration, or (for `.input`) that appears in its own options, or (for `.local`) that appears in its own expression

abbrev pub is_in_itself : Declaration → Bool
is_in_itself (Declarations.Input name expression) = is_in_options name (call_options expression.function)
is_in_itself (Declarations.Local name expression) = is_in_expression name expression

abbrev pub is_duplicate_declaration : Member Declaration → Bool
is_duplicate_declaration declaration = list_any (is_in_declaration (name_of declaration.this)) declaration.earlier || is_in_itself declaration.this

abbrev pub duplicate_declarations : List Declaration → List Fault
duplicate_declarations declarations =
    faults_where Kinds.DuplicateDeclaration is_duplicate_declaration (λ (declaration : Member Declaration). variable_text (name_of declaration.this)) (members declarations)

-- duplicate-option-name: an option's identifier equals an earlier one of the same function or markup

abbrev pub is_duplicate_option : Member OptionNode → Bool
is_duplicate_option option = list_any (λ (other : OptionNode). is_same_identifier option.this.name other.name) option.earlier

abbrev pub duplicate_options : List OptionNode → List Fault
duplicate_options options =
    faults_where Kinds.DuplicateOptionName is_duplicate_option (λ (option : Member OptionNode). identifier_text option.this.name) (members options)

abbrev pub duplicate_option_names : Message → List Fault
duplicate_option_names message = flat_map duplicate_options (all_options message)

-- duplicate-variant: a variant's key list equals that of an earlier variant

abbrev pub is_duplicate_variant : Member Variant → Bool
is_duplicate_variant variant = list_any (λ (other : Variant). is_same_keys variant.this.keys other.keys) variant.earlier

abbrev pub duplicate_variants : List Variant → List Fault
duplicate_variants variants = faults_where Kinds.DuplicateVariant is_duplicate_variant number_text (members variants)

-- All errors: the classes in the order in which they stand above.

abbrev pub selection_faults : List Declaration → Body → List Fault
selection_faults declarations (Bodies.Pattern pattern) = []
selection_faults declarations (Bodies.Match selectors variants) =
    variant_key_mismatches selectors variants ++ missing_fallback_variants selectors variants ++ missing_selector_annotations declarations selectors

abbrev pub body_duplicates : Body → List Fault
body_duplicates (Bodies.Pattern pattern) = []
body_duplicates (Bodies.Match selectors variants) = duplicate_variants variants

abbrev pub faults : Message → List Fault
faults message =
    selection_faults message.declarations message.body
    ++ duplicate_declarations message.declarations
    ++ duplicate_option_names message
    ++ body_duplicates message.body
