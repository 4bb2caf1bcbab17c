-- What is spelled is found: expressions, markup and placeholders.
use Rattle.std.proofs.Common.{◌≡◌, ℕ, Bool, true, false, ◌==◌, ◌&&◌, Option, Some, None, List, [], ◌∷◌, ◌++◌, refl, ap, sym, ◌∙◌, subst, inl}
use Rattle.std.proofs.lemmas.Bool.{cond-true, cond-false, and_from}
use Rattle.std.specs.Option.{option_map, option_and_then}
use Rattle.std.specs.Prelude.{codes}
use Rattle.mf_text.specs.Characters.{is_space, is_name_start}
use Rattle.mf_text.specs.Languages.{Language, Word, ◌⋅◌, Maybe, Each, Begins}
use Rattle.mf_text.specs.Grammar.{O, SpellsLiteral}
use Rattle.mf_lex.specs.Computed.{is_next, one_at, after_space, has_space, literal_at}
use Rattle.mf_lex.proofs.Begins.{parted}
use Rattle.mf_lex.proofs.Escapes.{one_next}
use Rattle.mf_lex.proofs.Literals.{literal_complete}
use Rattle.mf_lex.proofs.Members.{colon_is_no_name_char, slash_is_no_name_char, right_brace_is_no_name_char, dollar_is_no_name_char, at_is_no_name_char, hash_is_no_name_char}
use Rattle.mf_tree.specs.Grammar.{SpellsIdentifierNode, SpellsVariable, SpellsSpacedOption, SpellsAttribute, SpellsSpacedAttribute, SpellsFunction, SpellsSpacedFunction, SpellsVariableExpression, SpellsExpressionOf, SpellsExpression, SpellsMarkupOf, SpellsPlaceholder}
use Rattle.mf_tree.specs.declared.name.Name.{Name}
use Rattle.mf_tree.specs.declared.name.Identifier.{Identifier}
use Rattle.mf_tree.specs.declared.expression.Operand.{Operand}
use Rattle.mf_tree.specs.declared.expression.Expression.{Expression}
use Rattle.mf_tree.specs.declared.expression.Call.{Call}
use Rattle.mf_tree.specs.declared.expression.OptionNode.{OptionNode}
use Rattle.mf_tree.specs.declared.expression.Attribute.{Attribute}
use Rattle.mf_tree.specs.declared.pattern.Form.{Form}
use Rattle.mf_tree.specs.declared.pattern.Markup.{Markup}
use Rattle.mf_tree.specs.declared.pattern.Piece.{Piece}
use Rattle.mf_tree.specs.declared.expression.Operand.TheVariants as Operands
use Rattle.mf_tree.specs.declared.pattern.Form.TheVariants as Forms
use Rattle.mf_tree.specs.declared.pattern.Piece.TheVariants as Pieces
use Rattle.mf_parse.specs.Computed.{made, followed, behind, placed, onto, is_at, is_spaced, identifier_node_at, variable_at, options_at, attribute_at, spaced_attribute_at, attributes_at, call_node, function_at, spaced_function_at, behind_brace, last_attributes_at, expression_node, rest_of_expression_at, of_variable_at, of_literal_at, of_function_at, inner_expression_at, inside, expression_at, form_at, markup_node, opening_at, closing_at, inner_placeholder_at, placeholder_at}
use Rattle.mf_parse.proofs.Finding.{followed_by, behind_by, made_by, placed_by, many_stop, many_some, Shortens}
use Rattle.mf_parse.proofs.Heads.{spaced}
use Rattle.mf_parse.proofs.Places.{IsPast, past_space, past_some, past_spaced, Reaches, Stops, stops_before, stops_spaced, at_itself, word_first, word_only, space_first, some_space_first, sign_first, sign_only, some_space_is_longer, shorter}
use Rattle.mf_parse.proofs.Sound.{attribute_sound}
use Rattle.mf_parse.proofs.Complete.{identifier_complete_node, variable_complete, variable_here, literal_at_itself, literal_is_not_at, each_stops, options_complete, attribute_complete}

-- what may follow the options, or the function, or an attribute
pub record Tail (cs : List ℕ) : Type 0 where
  pub stops : Stops cs
  pub no_option : is_spaced is_name_start cs ≡ false
  pub no_function : is_spaced (λ c. c == 0x3A) cs ≡ false
  pub no_equals : is_at 0x3D (after_space cs) ≡ false

and_fails : (a b : Bool) → b ≡ false → (a && b) ≡ false
and_fails true b fails = fails
and_fails false b fails = refl

not_spaced : (is_member : ℕ → Bool) (cs : List ℕ) (c : ℕ) (rest : List ℕ) → after_space cs ≡ c ∷ rest → is_member c ≡ false → is_spaced is_member cs ≡ false
not_spaced is_member cs c rest h fails = and_fails (has_space cs) (is_next is_member (after_space cs)) (ap (is_next is_member) h ∙ fails)

at_is_no_start : is_name_start 0x40 ≡ false
unfolding is_name_start
at_is_no_start = refl

slash_is_no_start : is_name_start 0x2F ≡ false
unfolding is_name_start
slash_is_no_start = refl

brace_is_no_start : is_name_start 0x7D ≡ false
unfolding is_name_start
brace_is_no_start = refl

pub tail_at : (cs rest : List ℕ) → after_space cs ≡ 0x40 ∷ rest → Tail cs
tail_at cs rest h = record {
  stops = stops_before cs 0x40 rest h at_is_no_name_char refl;
  no_option = not_spaced is_name_start cs 0x40 rest h at_is_no_start;
  no_function = not_spaced (λ c. c == 0x3A) cs 0x40 rest h refl;
  no_equals = ap (is_at 0x3D) h;
}

pub tail_slash : (cs rest : List ℕ) → after_space cs ≡ 0x2F ∷ rest → Tail cs
tail_slash cs rest h = record {
  stops = stops_before cs 0x2F rest h slash_is_no_name_char refl;
  no_option = not_spaced is_name_start cs 0x2F rest h slash_is_no_start;
  no_function = not_spaced (λ c. c == 0x3A) cs 0x2F rest h refl;
  no_equals = ap (is_at 0x3D) h;
}

pub tail_brace : (cs rest : List ℕ) → after_space cs ≡ 0x7D ∷ rest → Tail cs
tail_brace cs rest h = record {
  stops = stops_before cs 0x7D rest h right_brace_is_no_name_char refl;
  no_option = not_spaced is_name_start cs 0x7D rest h brace_is_no_start;
  no_function = not_spaced (λ c. c == 0x3A) cs 0x7D rest h refl;
  no_equals = ap (is_at 0x3D) h;
}

was_nothing : (cs left : List ℕ) → Begins (Word []) cs left → left ≡ cs
was_nothing cs left begins = sym (begins.whole ∙ ap (λ cs. cs ++ left) begins.is)

-- an attribute behind the space
attribute_sign : (node : Attribute) (cs left : List ℕ) → Begins (SpellsSpacedAttribute node) cs left → (rest : List ℕ) × (has_space cs ≡ true) × (after_space cs ≡ 0x40 ∷ rest) × Begins (SpellsAttribute node) (after_space cs) left
attribute_sign node cs left begins =
    let space = some_space_first (SpellsAttribute node) cs left begins in
    let word = word_first 0x40 _ space.1.middle left space.1.begins in
    let at : after_space cs ≡ space.1.middle = space.1.same ∙ ap after_space word.is ∙ at_itself 0x40 word.middle refl ∙ sym word.is in
    (word.middle, space.0, at ∙ word.is, subst (λ (cs : List ℕ). Begins (SpellsAttribute node) cs left) (sym at) space.1.begins)

pub tail_attributes : (nodes : List Attribute) (cs left : List ℕ) → Begins (Each SpellsSpacedAttribute nodes) cs left → Tail left → Tail cs
tail_attributes [] cs left begins tail = subst Tail (was_nothing cs left begins) tail
tail_attributes (node ∷ nodes) cs left begins tail =
    let parts = parted (SpellsSpacedAttribute node) (Each SpellsSpacedAttribute nodes) cs left begins in
    let sign = attribute_sign node cs parts.between parts.first in
    tail_at cs sign.0 sign.2

pub attributes_shorten : Shortens (is_spaced (λ c. c == 0x40)) spaced_attribute_at
attributes_shorten cs node left some finds =
    shorter (SpellsSpacedAttribute node) cs left (some_space_is_longer (SpellsAttribute node))
    (spaced (λ c. c == 0x40) (SpellsAttribute node) cs left some (attribute_sound (after_space cs) node left finds))

pub attributes_complete : (nodes : List Attribute) (cs left place : List ℕ) → Begins (Each SpellsSpacedAttribute nodes) cs left → IsPast cs place → Tail left → is_spaced (λ c. c == 0x40) left ≡ false →
    Reaches (attributes_at place) nodes left
unfolding attributes_at has_space
attributes_complete [] cs left place begins past tail ends =
    let past_left : IsPast left place = subst (λ (cs : List ℕ). IsPast cs place) (sym (was_nothing cs left begins)) past in record {
      place = place;
      past = past_left;
      is = many_stop (is_spaced (λ c. c == 0x40)) spaced_attribute_at place (past_spaced (λ c. c == 0x40) left place past_left ∙ ends);
    }
attributes_complete (node ∷ nodes) cs left place begins past tail ends =
    let parts = parted (SpellsSpacedAttribute node) (Each SpellsSpacedAttribute nodes) cs left begins in
    let sign = attribute_sign node cs parts.between parts.first in
    let tail_between = tail_attributes nodes parts.between left parts.second tail in
    let first = attribute_complete node (after_space cs) parts.between sign.3 (record { stops = tail_between.stops; no_equals = tail_between.no_equals }) in
    let rest = attributes_complete nodes parts.between left first.place parts.second first.past tail ends in record {
      place = rest.place;
      past = rest.past;
      is =
          many_some (is_spaced (λ c. c == 0x40)) spaced_attribute_at refl attributes_shorten place node first.place
          (and_from (has_space place) (is_next (λ c. c == 0x40) (after_space place)) (past_some cs place past ∙ sign.1) (ap (is_next (λ c. c == 0x40)) (past_space cs place past ∙ sign.2)))
          (ap attribute_at (past_space cs place past) ∙ first.is)
          ∙ made_by (onto node) (attributes_at first.place) nodes rest.place rest.is;
    }

pub function_complete : (node : Call) (cs left : List ℕ) → Begins (SpellsFunction node) cs left → Tail left → Reaches (function_at cs) node left
unfolding function_at
function_complete node cs left begins tail =
    let sign = word_first 0x3A (SpellsIdentifierNode node.name ⋅ Each SpellsSpacedOption node.options) cs left begins in
    let parts = parted (SpellsIdentifierNode node.name) (Each SpellsSpacedOption node.options) sign.middle left sign.begins in
    let name = identifier_complete_node node.name sign.middle parts.between parts.first (each_stops _ node.options parts.between left parts.second tail.stops) in
    let options = options_complete node.options parts.between left name.place parts.second name.past tail.stops tail.no_option in record {
      place = options.place;
      past = options.past;
      is =
          behind_by (one_at 0x3A cs) (λ left. followed (identifier_node_at left) (λ name left. made (call_node name) (options_at left))) sign.middle (ap (one_at 0x3A) sign.is ∙ one_next 0x3A sign.middle)
          ∙ followed_by (identifier_node_at sign.middle) (λ name left. made (call_node name) (options_at left)) node.name name.place name.is
          ∙ made_by (call_node node.name) (options_at name.place) node.options options.place options.is;
    }

-- a function behind the space
function_sign : (node : Call) (cs left : List ℕ) → Begins (SpellsSpacedFunction node) cs left → (rest : List ℕ) × (has_space cs ≡ true) × (after_space cs ≡ 0x3A ∷ rest) × Begins (SpellsFunction node) (after_space cs) left
function_sign node cs left begins =
    let space = some_space_first (SpellsFunction node) cs left begins in
    let word = word_first 0x3A _ space.1.middle left space.1.begins in
    let at : after_space cs ≡ space.1.middle = space.1.same ∙ ap after_space word.is ∙ at_itself 0x3A word.middle refl ∙ sym word.is in
    (word.middle, space.0, at ∙ word.is, subst (λ (cs : List ℕ). Begins (SpellsFunction node) cs left) (sym at) space.1.begins)

spaced_function_complete : (node : Option Call) (cs left place : List ℕ) → Begins (Maybe SpellsSpacedFunction node) cs left → IsPast cs place → Tail left → Reaches (spaced_function_at place) node left
unfolding spaced_function_at
spaced_function_complete None cs left place begins past tail =
    let past_left : IsPast left place = subst (λ (cs : List ℕ). IsPast cs place) (sym (was_nothing cs left begins)) past in record {
      place = place;
      past = past_left;
      is = cond-false (is_spaced (λ c. c == 0x3A) place) _ _ (past_spaced (λ c. c == 0x3A) left place past_left ∙ tail.no_function);
    }
spaced_function_complete (Some node) cs left place begins past tail =
    let sign = function_sign node cs left begins in
    let reaches = function_complete node (after_space cs) left sign.3 tail in record {
      place = reaches.place;
      past = reaches.past;
      is =
          cond-true (is_spaced (λ c. c == 0x3A) place) (made Some (function_at (after_space place))) (Some (None, place))
          (and_from (has_space place) (is_next (λ c. c == 0x3A) (after_space place)) (past_some cs place past ∙ sign.1) (ap (is_next (λ c. c == 0x3A)) (past_space cs place past ∙ sign.2)))
          ∙ made_by Some (function_at (after_space place)) node reaches.place (ap function_at (past_space cs place past) ∙ reaches.is);
    }

-- *(s attribute) o "}"
abbrev pub Ends : List Attribute → Language
Ends attributes = Each SpellsSpacedAttribute attributes ⋅ O ⋅ Word (codes "}")

pub tail_ends : (nodes : List Attribute) (cs left : List ℕ) → Begins (Ends nodes) cs left → Tail cs
tail_ends nodes cs left begins =
    let parts = parted (Each SpellsSpacedAttribute nodes) (O ⋅ Word (codes "}")) cs left begins in
    tail_attributes nodes cs parts.between parts.first (tail_brace parts.between left (sign_only 0x7D parts.between left refl parts.second))

pub last_attributes_complete : (nodes : List Attribute) (cs left place : List ℕ) → Begins (Ends nodes) cs left → IsPast cs place → last_attributes_at place ≡ Some (nodes, left)
unfolding last_attributes_at behind_brace after_space
last_attributes_complete nodes cs left place begins past =
    let parts = parted (Each SpellsSpacedAttribute nodes) (O ⋅ Word (codes "}")) cs left begins in
    let brace = sign_only 0x7D parts.between left refl parts.second in
    let attributes = attributes_complete nodes cs parts.between place parts.first past (tail_brace parts.between left brace) (not_spaced (λ c. c == 0x40) parts.between 0x7D left brace refl) in
    followed_by (attributes_at place) (λ attributes left. placed attributes (behind_brace left)) nodes attributes.place attributes.is
    ∙ placed_by nodes (behind_brace attributes.place) left (ap (one_at 0x7D) (past_space parts.between attributes.place attributes.past ∙ brace) ∙ one_next 0x7D left)

-- [s function] *(s attribute) o "}"
abbrev pub RestOf : Option Call → List Attribute → Language
RestOf function attributes = Maybe SpellsSpacedFunction function ⋅ Ends attributes

pub rest_stops : (function : Option Call) (nodes : List Attribute) (cs left : List ℕ) → Begins (RestOf function nodes) cs left → Stops cs
rest_stops None nodes cs left begins =
    let parts = parted (Word []) (Ends nodes) cs left begins in
    subst Stops (was_nothing cs parts.between parts.first) (tail_ends nodes parts.between left parts.second).stops
rest_stops (Some node) nodes cs left begins =
    let parts = parted (SpellsSpacedFunction node) (Ends nodes) cs left begins in
    stops_spaced cs (function_sign node cs parts.between parts.first).1

pub rest_complete : (operand : Operand) (function : Option Call) (nodes : List Attribute) (cs left place : List ℕ) → Begins (RestOf function nodes) cs left → IsPast cs place →
    rest_of_expression_at operand place ≡ Some (expression_node operand function nodes, left)
unfolding rest_of_expression_at
rest_complete operand function nodes cs left place begins past =
    let parts = parted (Maybe SpellsSpacedFunction function) (Ends nodes) cs left begins in
    let first = spaced_function_complete function cs parts.between place parts.first past (tail_ends nodes parts.between left parts.second) in
    followed_by (spaced_function_at place) (λ function left. made (expression_node operand function) (last_attributes_at left)) function first.place first.is
    ∙ made_by (expression_node operand function) (last_attributes_at first.place) nodes left (last_attributes_complete nodes parts.between left first.place parts.second first.past)

-- where the braces of an expression lead
pub record Inner (node : Expression) (cs left : List ℕ) : Type 0 where
  pub middle : List ℕ
  pub brace : inside cs ≡ Some middle
  pub no_hash : is_at 0x23 middle ≡ false
  pub no_slash : is_at 0x2F middle ≡ false
  pub is : inner_expression_at middle ≡ Some (node, left)

-- "{" o
pub inside_is : (Rule : Language) (cs left : List ℕ) → Begins (Word (codes "{") ⋅ O ⋅ Rule) cs left → (middle : List ℕ) × (inside cs ≡ Some (after_space middle)) × Begins Rule middle left
unfolding inside
inside_is Rule cs left begins =
    let brace = word_first 0x7B (O ⋅ Rule) cs left begins in
    let space = space_first Rule brace.middle left brace.begins in (
      space.middle,
      ap (λ cs. option_map after_space (one_at 0x7B cs)) brace.is ∙ ap (option_map after_space) (one_next 0x7B brace.middle) ∙ ap Some space.same,
      space.begins,
    )

variable_inner : (name : Name) (function : Option Call) (nodes : List Attribute) (cs left : List ℕ) → Begins (SpellsVariableExpression name function nodes) cs left →
    Inner (expression_node (Operands.Variable name) function nodes) cs left
unfolding inner_expression_at of_variable_at
variable_inner name function nodes cs left begins =
    let brace = inside_is (SpellsVariable name ⋅ RestOf function nodes) cs left begins in
    let parts = parted (SpellsVariable name) (RestOf function nodes) brace.0 left brace.2 in
    let here = variable_here name brace.0 parts.between parts.first in
    let variable = variable_complete name brace.0 parts.between parts.first (rest_stops function nodes parts.between left parts.second) in record {
      middle = brace.0;
      brace = brace.1 ∙ ap Some (ap after_space here.1 ∙ at_itself 0x24 here.0 refl ∙ sym here.1);
      no_hash = ap (is_at 0x23) here.1;
      no_slash = ap (is_at 0x2F) here.1;
      is =
          cond-true (is_at 0x24 brace.0) _ _ (ap (is_at 0x24) here.1)
          ∙ followed_by (variable_at brace.0) (λ name left. rest_of_expression_at (Operands.Variable name) left) name variable.place variable.is
          ∙ rest_complete (Operands.Variable name) function nodes parts.between left variable.place parts.second variable.past;
    }

literal_inner : (value : List ℕ) (function : Option Call) (nodes : List Attribute) (cs left : List ℕ) → Begins (SpellsExpressionOf (Operands.Literal value) function nodes) cs left →
    Inner (expression_node (Operands.Literal value) function nodes) cs left
unfolding inner_expression_at of_literal_at
literal_inner value function nodes cs left begins =
    let brace = inside_is (SpellsLiteral value ⋅ RestOf function nodes) cs left begins in
    let parts = parted (SpellsLiteral value) (RestOf function nodes) brace.0 left brace.2 in
    let stops = rest_stops function nodes parts.between left parts.second in record {
      middle = brace.0;
      brace = brace.1 ∙ ap Some (literal_at_itself value brace.0 parts.between parts.first);
      no_hash = literal_is_not_at 0x23 value brace.0 parts.between hash_is_no_name_char refl parts.first;
      no_slash = literal_is_not_at 0x2F value brace.0 parts.between slash_is_no_name_char refl parts.first;
      is =
          cond-false (is_at 0x24 brace.0) _ _ (literal_is_not_at 0x24 value brace.0 parts.between dollar_is_no_name_char refl parts.first)
          ∙ cond-false (is_at 0x3A brace.0) _ _ (literal_is_not_at 0x3A value brace.0 parts.between colon_is_no_name_char refl parts.first)
          ∙ followed_by (literal_at brace.0) (λ value left. rest_of_expression_at (Operands.Literal value) left) value parts.between (literal_complete value brace.0 parts.between parts.first stops.no_name)
          ∙ rest_complete (Operands.Literal value) function nodes parts.between left parts.between parts.second (inl refl);
    }

function_inner : (call : Call) (nodes : List Attribute) (cs left : List ℕ) → Begins (SpellsExpressionOf Operands.Absent (Some call) nodes) cs left → Inner (expression_node Operands.Absent (Some call) nodes) cs left
unfolding inner_expression_at of_function_at
function_inner call nodes cs left begins =
    let brace = inside_is (SpellsFunction call ⋅ Ends nodes) cs left (record { taken = begins.taken; whole = begins.whole; is = begins.is }) in
    let parts = parted (SpellsFunction call) (Ends nodes) brace.0 left brace.2 in
    let here = word_first 0x3A _ brace.0 parts.between parts.first in
    let function = function_complete call brace.0 parts.between parts.first (tail_ends nodes parts.between left parts.second) in record {
      middle = brace.0;
      brace = brace.1 ∙ ap Some (ap after_space here.is ∙ at_itself 0x3A here.middle refl ∙ sym here.is);
      no_hash = ap (is_at 0x23) here.is;
      no_slash = ap (is_at 0x2F) here.is;
      is =
          cond-false (is_at 0x24 brace.0) _ _ (ap (is_at 0x24) here.is)
          ∙ cond-true (is_at 0x3A brace.0) _ _ (ap (is_at 0x3A) here.is)
          ∙ followed_by (function_at brace.0) (λ call left. made (expression_node Operands.Absent (Some call)) (last_attributes_at left)) call function.place function.is
          ∙ made_by (expression_node Operands.Absent (Some call)) (last_attributes_at function.place) nodes left (last_attributes_complete nodes parts.between left function.place parts.second function.past);
    }

inner_of : (operand : Operand) (function : Option Call) (nodes : List Attribute) (cs left : List ℕ) → Begins (SpellsExpressionOf operand function nodes) cs left → Inner (expression_node operand function nodes) cs left
inner_of (Operands.Literal value) function nodes cs left begins = literal_inner value function nodes cs left begins
inner_of (Operands.Variable name) function nodes cs left begins = variable_inner name function nodes cs left begins
inner_of Operands.Absent (Some call) nodes cs left begins = function_inner call nodes cs left begins
inner_of Operands.Absent None nodes cs left begins = absurd begins.is

inner : (node : Expression) (cs left : List ℕ) → Begins (SpellsExpression node) cs left → Inner node cs left
inner node cs left begins = inner_of node.operand node.function node.attributes cs left begins

pub expression_complete : (node : Expression) (cs left : List ℕ) → Begins (SpellsExpression node) cs left → expression_at cs ≡ Some (node, left)
unfolding expression_at
expression_complete node cs left begins =
    let parts = inner node cs left begins in
    behind_by (inside cs) inner_expression_at parts.middle parts.brace ∙ parts.is

-- the parts of markup behind its sign
abbrev PartsOf : Identifier → List OptionNode → List Attribute → Language → Language
PartsOf name options attributes End = SpellsIdentifierNode name ⋅ Each SpellsSpacedOption options ⋅ Each SpellsSpacedAttribute attributes ⋅ End

-- what is found of them, up to their end
record Parts (name : Identifier) (options : List OptionNode) (attributes : List Attribute) (End : Language) (cs left : List ℕ) : Type 0 where
  one : List ℕ
  two : List ℕ
  first : identifier_node_at cs ≡ Some (name, one)
  second : options_at one ≡ Some (options, two)
  start : List ℕ
  past : IsPast start two
  attributes_begin : Begins (Each SpellsSpacedAttribute attributes ⋅ End) start left

parts_complete : (name : Identifier) (options : List OptionNode) (attributes : List Attribute) (End : Language) (cs left : List ℕ) → ((cs left : List ℕ) → Begins End cs left → Tail cs) →
    Begins (PartsOf name options attributes End) cs left → Parts name options attributes End cs left
parts_complete name options attributes End cs left tail begins =
    let first = parted (SpellsIdentifierNode name) (Each SpellsSpacedOption options ⋅ Each SpellsSpacedAttribute attributes ⋅ End) cs left begins in
    let second = parted (Each SpellsSpacedOption options) (Each SpellsSpacedAttribute attributes ⋅ End) first.between left first.second in
    let third = parted (Each SpellsSpacedAttribute attributes) End second.between left second.second in
    let tail_third = tail_attributes attributes second.between third.between third.first (tail third.between left third.second) in
    let found = identifier_complete_node name cs first.between first.first (each_stops _ options first.between second.between second.first tail_third.stops) in
    let given = options_complete options first.between second.between found.place second.first found.past tail_third.stops tail_third.no_option in record {
      one = found.place;
      two = given.place;
      first = found.is;
      second = given.is;
      start = second.between;
      past = given.past;
      attributes_begin = second.second;
    }

end_tail : (cs left : List ℕ) → Begins (O ⋅ Word (codes "}")) cs left → Tail cs
end_tail cs left begins = tail_brace cs left (sign_only 0x7D cs left refl begins)

standalone_tail : (cs left : List ℕ) → Begins (O ⋅ Word (codes "/") ⋅ Word (codes "}")) cs left → Tail cs
standalone_tail cs left begins = let sign = sign_first 0x2F (Word (codes "}")) cs left refl begins in tail_slash cs sign.middle sign.is

start_opening : (name : Identifier) (options : List OptionNode) (attributes : List Attribute) (cs left : List ℕ) → Begins (PartsOf name options attributes (O ⋅ Word (codes "}"))) cs left →
    opening_at cs ≡ Some (markup_node name options attributes Forms.Start, left)
unfolding opening_at form_at behind_brace after_space
start_opening name options attributes cs left begins =
    let parts = parts_complete name options attributes (O ⋅ Word (codes "}")) cs left end_tail begins in
    let last = parted (Each SpellsSpacedAttribute attributes) (O ⋅ Word (codes "}")) parts.start left parts.attributes_begin in
    let brace = sign_only 0x7D last.between left refl last.second in
    let given = attributes_complete attributes parts.start last.between parts.two last.first parts.past (tail_brace last.between left brace) (not_spaced (λ c. c == 0x40) last.between 0x7D left brace refl) in
    let at : after_space given.place ≡ 0x7D ∷ left = past_space last.between given.place given.past ∙ brace in
    followed_by (identifier_node_at cs) _ name parts.one parts.first
    ∙ followed_by (options_at parts.one) _ options parts.two parts.second
    ∙ followed_by (attributes_at parts.two) _ attributes given.place given.is
    ∙ made_by (markup_node name options attributes) (form_at given.place) Forms.Start left
    (cond-false (is_at 0x2F (after_space given.place)) _ _ (ap (is_at 0x2F) at) ∙ placed_by Forms.Start (behind_brace given.place) left (ap (one_at 0x7D) at ∙ one_next 0x7D left))

standalone_opening : (name : Identifier) (options : List OptionNode) (attributes : List Attribute) (cs left : List ℕ) → Begins (PartsOf name options attributes (O ⋅ Word (codes "/") ⋅ Word (codes "}"))) cs left →
    opening_at cs ≡ Some (markup_node name options attributes Forms.Standalone, left)
unfolding opening_at form_at
standalone_opening name options attributes cs left begins =
    let parts = parts_complete name options attributes (O ⋅ Word (codes "/") ⋅ Word (codes "}")) cs left standalone_tail begins in
    let last = parted (Each SpellsSpacedAttribute attributes) (O ⋅ Word (codes "/") ⋅ Word (codes "}")) parts.start left parts.attributes_begin in
    let slash = sign_first 0x2F (Word (codes "}")) last.between left refl last.second in
    let given = attributes_complete attributes parts.start last.between parts.two last.first parts.past (tail_slash last.between slash.middle slash.is) (not_spaced (λ c. c == 0x40) last.between 0x2F slash.middle slash.is refl) in
    let at : after_space given.place ≡ 0x2F ∷ slash.middle = past_space last.between given.place given.past ∙ slash.is in
    followed_by (identifier_node_at cs) _ name parts.one parts.first
    ∙ followed_by (options_at parts.one) _ options parts.two parts.second
    ∙ followed_by (attributes_at parts.two) _ attributes given.place given.is
    ∙ made_by (markup_node name options attributes) (form_at given.place) Forms.Standalone left
    (cond-true (is_at 0x2F (after_space given.place)) _ _ (ap (is_at 0x2F) at)
    ∙ placed_by Forms.Standalone (option_and_then (one_at 0x7D) (one_at 0x2F (after_space given.place))) left
    (ap (λ cs. option_and_then (one_at 0x7D) (one_at 0x2F cs)) at ∙ ap (option_and_then (one_at 0x7D)) (one_next 0x2F slash.middle) ∙ ap (one_at 0x7D) (word_only 0x7D slash.middle left slash.begins) ∙ one_next 0x7D left))

end_closing : (name : Identifier) (options : List OptionNode) (attributes : List Attribute) (cs left : List ℕ) → Begins (PartsOf name options attributes (O ⋅ Word (codes "}"))) cs left →
    closing_at cs ≡ Some (markup_node name options attributes Forms.End, left)
unfolding closing_at
end_closing name options attributes cs left begins =
    let parts = parts_complete name options attributes (O ⋅ Word (codes "}")) cs left end_tail begins in
    followed_by (identifier_node_at cs) _ name parts.one parts.first
    ∙ followed_by (options_at parts.one) _ options parts.two parts.second
    ∙ made_by (λ attributes. markup_node name options attributes Forms.End) (last_attributes_at parts.two) attributes left (last_attributes_complete attributes parts.start left parts.two parts.attributes_begin parts.past)

-- "{" o, a sign that is no space, and then a rule
record Signed (sign : ℕ) (Rule : Language) (cs left : List ℕ) : Type 0 where
  place : List ℕ
  brace : inside cs ≡ Some (sign ∷ place)
  begins : Begins Rule place left

signed : (sign : ℕ) (Rule : Language) (cs left : List ℕ) → is_space sign ≡ false → Begins (Word (codes "{") ⋅ O ⋅ Word (sign ∷ []) ⋅ Rule) cs left → Signed sign Rule cs left
signed sign Rule cs left other begins =
    let brace = inside_is (Word (sign ∷ []) ⋅ Rule) cs left begins in
    let word = word_first sign Rule brace.0 left brace.2 in
    record { place = word.middle; brace = brace.1 ∙ ap Some (ap after_space word.is ∙ at_itself sign word.middle other); begins = word.begins }

placeholder_opening : (node : Markup) (Rule : Language) (cs left : List ℕ) → Begins (Word (codes "{") ⋅ O ⋅ Word (codes "#") ⋅ Rule) cs left → ((cs left : List ℕ) → Begins Rule cs left → opening_at cs ≡ Some (node, left)) →
    placeholder_at cs ≡ Some (Pieces.Markup node, left)
unfolding placeholder_at inner_placeholder_at
placeholder_opening node Rule cs left begins complete =
    let sign = signed 0x23 Rule cs left refl begins in
    behind_by (inside cs) inner_placeholder_at (0x23 ∷ sign.place) sign.brace
    ∙ made_by Pieces.Markup (behind (one_at 0x23 (0x23 ∷ sign.place)) opening_at) node left
    (behind_by (one_at 0x23 (0x23 ∷ sign.place)) opening_at sign.place (one_next 0x23 sign.place) ∙ complete sign.place left sign.begins)

placeholder_closing : (node : Markup) (Rule : Language) (cs left : List ℕ) → Begins (Word (codes "{") ⋅ O ⋅ Word (codes "/") ⋅ Rule) cs left → ((cs left : List ℕ) → Begins Rule cs left → closing_at cs ≡ Some (node, left)) →
    placeholder_at cs ≡ Some (Pieces.Markup node, left)
unfolding placeholder_at inner_placeholder_at
placeholder_closing node Rule cs left begins complete =
    let sign = signed 0x2F Rule cs left refl begins in
    behind_by (inside cs) inner_placeholder_at (0x2F ∷ sign.place) sign.brace
    ∙ made_by Pieces.Markup (behind (one_at 0x2F (0x2F ∷ sign.place)) closing_at) node left
    (behind_by (one_at 0x2F (0x2F ∷ sign.place)) closing_at sign.place (one_next 0x2F sign.place) ∙ complete sign.place left sign.begins)

markup_complete_of : (form : Form) (name : Identifier) (options : List OptionNode) (attributes : List Attribute) (cs left : List ℕ) → Begins (SpellsMarkupOf form name options attributes) cs left →
    placeholder_at cs ≡ Some (Pieces.Markup (markup_node name options attributes form), left)
markup_complete_of Forms.Start name options attributes cs left begins =
    placeholder_opening (markup_node name options attributes Forms.Start) (PartsOf name options attributes (O ⋅ Word (codes "}"))) cs left begins (start_opening name options attributes)
markup_complete_of Forms.Standalone name options attributes cs left begins =
    placeholder_opening (markup_node name options attributes Forms.Standalone) (PartsOf name options attributes (O ⋅ Word (codes "/") ⋅ Word (codes "}"))) cs left begins (standalone_opening name options attributes)
markup_complete_of Forms.End name options attributes cs left begins =
    placeholder_closing (markup_node name options attributes Forms.End) (PartsOf name options attributes (O ⋅ Word (codes "}"))) cs left begins (end_closing name options attributes)

pub placeholder_complete : (node : Piece) (cs left : List ℕ) → Begins (SpellsPlaceholder node) cs left → placeholder_at cs ≡ Some (node, left)
unfolding placeholder_at inner_placeholder_at
placeholder_complete (Pieces.Text value) cs left begins = absurd begins.is
placeholder_complete (Pieces.Expression node) cs left begins =
    let parts = inner node cs left (record { taken = begins.taken; whole = begins.whole; is = begins.is }) in
    behind_by (inside cs) inner_placeholder_at parts.middle parts.brace
    ∙ cond-false (is_at 0x23 parts.middle) _ _ parts.no_hash
    ∙ cond-false (is_at 0x2F parts.middle) _ _ parts.no_slash
    ∙ made_by Pieces.Expression (inner_expression_at parts.middle) node left parts.is
placeholder_complete (Pieces.Markup node) cs left begins =
    markup_complete_of node.form node.name node.options node.attributes cs left (record { taken = begins.taken; whole = begins.whole; is = begins.is })
