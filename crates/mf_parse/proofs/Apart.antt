-- No text is both a simple message and a complex one: a complex one ends with two braces and space, and a pattern doesn't.
use Rattle.std.proofs.Common.{◌≡◌, ℕ, Bool, true, false, Option, Some, None, List, [], ◌∷◌, ◌++◌, refl, ap, sym, ◌∙◌, subst, inl, inr, ◌⊎◌, length, arith, append_assoc}
use Rattle.std.proofs.lemmas.Bool.{and_parts, false≢true}
use Rattle.std.proofs.lemmas.List.{length-append, append-nil, append_cancel_right}
use Rattle.std.specs.List.{list_all, AllByRecursion}
use Rattle.std.specs.Option.{option_map}
use Rattle.std.specs.Prelude.{codes}
use Rattle.mf_text.specs.Characters.{is_ws, is_bidi, is_space, is_name_start, is_name_char}
use Rattle.mf_text.specs.Languages.{Language, Word, ◌⋅◌, ◌∣◌, Optional, One, Any, Maybe, Each, Begins}
use Rattle.mf_text.specs.Grammar.{O, S, SpellsName, SpellsBareName, SpellsNamespace, SpellsLiteral, SpellsQuotedPart, is_bare_name, is_unquoted}
use Rattle.mf_text.proofs.Classes.{name_start_is_name_char}
use Rattle.mf_lex.proofs.Members.{right_brace_is_no_name_char}
use Rattle.mf_tree.specs.Grammar.{Item, character, placeholder, SpellsIdentifierNode, SpellsVariable, SpellsOptionValue, SpellsOption, SpellsSpacedOption, SpellsAttributeValue, SpellsAttribute, SpellsSpacedAttribute, SpellsFunction, SpellsSpacedFunction, SpellsExpressionOf, SpellsMarkupOf, SpellsPlaceholder, SpellsItem, SpellsItems, SpellsQuotedPattern, SpellsVariant, SpellsFurtherVariant, SpellsVariants, SpellsComplexBody, SpellsComplexMessage}
use Rattle.mf_tree.specs.declared.name.Name.{Name}
use Rattle.mf_tree.specs.declared.name.Identifier.{Identifier}
use Rattle.mf_tree.specs.declared.expression.Operand.{Operand}
use Rattle.mf_tree.specs.declared.expression.Call.{Call}
use Rattle.mf_tree.specs.declared.expression.OptionValue.{OptionValue}
use Rattle.mf_tree.specs.declared.expression.OptionNode.{OptionNode}
use Rattle.mf_tree.specs.declared.expression.Attribute.{Attribute}
use Rattle.mf_tree.specs.declared.pattern.Form.{Form}
use Rattle.mf_tree.specs.declared.pattern.Piece.{Piece}
use Rattle.mf_tree.specs.declared.message.Variant.{Variant}
use Rattle.mf_tree.specs.declared.message.Body.{Body}
use Rattle.mf_tree.specs.declared.message.Message.{Message}
use Rattle.mf_tree.specs.declared.expression.Operand.TheVariants as Operands
use Rattle.mf_tree.specs.declared.expression.OptionValue.TheVariants as OptionValues
use Rattle.mf_tree.specs.declared.pattern.Form.TheVariants as Forms
use Rattle.mf_tree.specs.declared.pattern.Piece.TheVariants as Pieces
use Rattle.mf_tree.specs.declared.message.Body.TheVariants as Bodies
use Rattle.mf_parse.specs.Computed.{goes_on}
use Rattle.mf_parse.proofs.CompleteMessages.{item_complete}

-- the last character of two texts: that of the second, or of the first where the second is empty
last_of : {X : Type 0} (first second front : List X) (x : X) → first ++ second ≡ front ++ x ∷ [] →
    ((second ≡ []) × (first ≡ front ++ x ∷ [])) ⊎ ((more : List X) × (second ≡ more ++ x ∷ []))
last_of [] second front x same = inr (front, same)
last_of (a ∷ first) second [] x same = inl (alone first second x a same) where
  alone : {X : Type 0} (first second : List X) (x a : X) → a ∷ first ++ second ≡ x ∷ [] → (second ≡ []) × (a ∷ first ≡ x ∷ [])
  alone [] [] x a same = (refl, same)
  alone [] (b ∷ second) x a same = absurd (cc)
  alone (b ∷ first) second x a same = absurd (cc)
last_of (a ∷ first) second (b ∷ front) x same =
    let head : a ≡ b = cc in
    let tail : first ++ second ≡ front ++ x ∷ [] = cc in
    elim (last_of first second front x tail) [
      | inl here ↦ inl (here.0, ap (λ first. a ∷ first) here.1 ∙ ap (λ a. a ∷ front ++ x ∷ []) head)
      | inr there ↦ inr there
    ]

-- no text of the rule ends with a closing brace
EndsOpen : Language → Type 0
EndsOpen Rule = (text front : List ℕ) → Rule text → text ≡ front ++ 0x7D ∷ [] → ⊥

-- no text of the rule ends with two
EndsOnce : Language → Type 0
EndsOnce Rule = (text front : List ℕ) → Rule text → text ≡ front ++ 0x7D ∷ 0x7D ∷ [] → ⊥

-- every text of the rule has a character
HasSome : Language → Type 0
HasSome Rule = Rule [] → ⊥

both_open : (First Second : Language) → EndsOpen First → EndsOpen Second → EndsOpen (First ⋅ Second)
unfolding EndsOpen
both_open First Second one other text front spelled ends =
    elim (last_of spelled.front spelled.back front 0x7D (sym spelled.whole ∙ ends)) [
      | inl here ↦ one spelled.front front spelled.first here.1
      | inr there ↦ other spelled.back there.0 spelled.second there.1
    ]

two_braces : (front : List ℕ) → front ++ 0x7D ∷ 0x7D ∷ [] ≡ (front ++ 0x7D ∷ []) ++ 0x7D ∷ []
two_braces front = sym (append_assoc front (0x7D ∷ []) (0x7D ∷ []))

both_once : (First Second : Language) → EndsOpen First → EndsOnce Second → HasSome Second → EndsOnce (First ⋅ Second)
unfolding EndsOpen EndsOnce HasSome
both_once First Second one other some text front spelled ends =
    elim (last_of spelled.front spelled.back (front ++ 0x7D ∷ []) 0x7D (sym spelled.whole ∙ ends ∙ two_braces front)) [
      | inl here ↦ some (subst Second here.0 spelled.second)
      | inr there ↦
          let first_two : (spelled.front ++ there.0) ++ 0x7D ∷ [] ≡ (front ++ 0x7D ∷ []) ++ 0x7D ∷ [] =
          append_assoc spelled.front there.0 (0x7D ∷ []) ∙ ap (λ cs. spelled.front ++ cs) (sym there.1) ∙ sym spelled.whole ∙ ends ∙ two_braces front in
          elim (last_of spelled.front there.0 front 0x7D (append_cancel_right (spelled.front ++ there.0) (front ++ 0x7D ∷ []) (0x7D ∷ []) first_two)) [
            | inl here ↦ one spelled.front front spelled.first here.1
            | inr more ↦ other spelled.back more.0 spelled.second (there.1 ∙ ap (λ cs. cs ++ 0x7D ∷ []) more.1 ∙ sym (two_braces more.0))
          ]
    ]

second_has_some : (First Second : Language) → HasSome Second → HasSome (First ⋅ Second)
unfolding HasSome
second_has_some First Second some spelled = some (subst Second (back_empty spelled.front spelled.back spelled.whole) spelled.second) where
  back_empty : (front back : List ℕ) → [] ≡ front ++ back → back ≡ []
  back_empty [] back same = sym same
  back_empty (c ∷ front) back same = absurd (cc)

-- the one character of a text of one
only_one : (c d : ℕ) (front : List ℕ) → c ∷ [] ≡ front ++ d ∷ [] → c ≡ d
only_one c d [] same = cc
only_one c d (a ∷ []) same = absurd (cc)
only_one c d (a ∷ b ∷ front) same = absurd (cc)

character_open : (c : ℕ) → (c ≡ 0x7D → ⊥) → EndsOpen (Word (c ∷ []))
unfolding EndsOpen
character_open c other text front spelled ends = other (only_one c 0x7D front (sym spelled ∙ ends))

-- a text of characters that all pass a test which the brace fails
all_pass : (test : ℕ → Bool) (text front : List ℕ) → test 0x7D ≡ false → AllByRecursion (λ c. test c ≡ true) text → text ≡ front ++ 0x7D ∷ [] → ⊥
all_pass test [] [] fails all ends = cc
all_pass test [] (c ∷ front) fails all ends = cc
all_pass test (c ∷ text) [] fails all ends = false≢true (sym fails ∙ ap test (sym (only_head c text ends)) ∙ all.0) where
  only_head : (c : ℕ) (text : List ℕ) → c ∷ text ≡ 0x7D ∷ [] → c ≡ 0x7D
  only_head c text same = cc
all_pass test (c ∷ text) (d ∷ front) fails all ends = all_pass test text front fails all.1 (cc)

space_open : EndsOpen O
unfolding EndsOpen
space_open text front spelled ends = all_pass is_space text front refl spelled ends

nothing_open : EndsOpen (Word [])
unfolding EndsOpen
nothing_open text [] spelled ends = cc
nothing_open text (c ∷ front) spelled ends = cc

maybe_open : {X : Type 0} (Rule : X → Language) (x : Option X) → ((x : X) → EndsOpen (Rule x)) → EndsOpen (Maybe Rule x)
maybe_open Rule None ends = nothing_open
maybe_open Rule (Some x) ends = ends x

each_open : {X : Type 0} (Rule : X → Language) (xs : List X) → ((x : X) → EndsOpen (Rule x)) → EndsOpen (Each Rule xs)
each_open Rule [] ends = nothing_open
each_open Rule (x ∷ xs) ends = both_open (Rule x) (Each Rule xs) (ends x) (each_open Rule xs ends)

-- a text of the second rule isn't empty, so the first doesn't matter
last_open : (First Second : Language) → HasSome Second → EndsOpen Second → EndsOpen (First ⋅ Second)
unfolding EndsOpen HasSome
last_open First Second some other text front spelled ends =
    elim (last_of spelled.front spelled.back front 0x7D (sym spelled.whole ∙ ends)) [
      | inl here ↦ some (subst Second here.0 spelled.second)
      | inr there ↦ other spelled.back there.0 spelled.second there.1
    ]

either_open : (First Second : Language) → EndsOpen First → EndsOpen Second → EndsOpen (First ∣ Second)
unfolding EndsOpen
either_open First Second one other text front (inl spelled) ends = one text front spelled ends
either_open First Second one other text front (inr spelled) ends = other text front spelled ends

one_open : (test : ℕ → Bool) → test 0x7D ≡ false → EndsOpen (One test)
unfolding EndsOpen
one_open test fails text front spelled ends =
    false≢true (sym fails ∙ ap test (sym (only_one spelled.0 0x7D front (sym spelled.1 ∙ ends))) ∙ spelled.2)

marks_open : EndsOpen (Any is_bidi)
unfolding EndsOpen
marks_open text front spelled ends = all_pass is_bidi text front refl spelled ends

some_space_open : EndsOpen S
some_space_open = both_open (Any is_bidi) (One is_ws ⋅ O) marks_open (both_open (One is_ws) O (one_open is_ws refl) space_open)

mark_open : EndsOpen (Optional (One is_bidi))
mark_open = either_open (Word []) (One is_bidi) nothing_open (one_open is_bidi refl)

name_chars : (cs : List ℕ) → list_all is_name_char cs ≡ true → AllByRecursion (λ c. is_name_char c ≡ true) cs
name_chars [] all = tt
name_chars (c ∷ cs) all = let parts = and_parts (is_name_char c) (list_all is_name_char cs) all in (parts.0, name_chars cs parts.1)

bare_chars : (cs : List ℕ) → is_bare_name cs ≡ true → AllByRecursion (λ c. is_name_char c ≡ true) cs
bare_chars [] is = absurd (false≢true is)
bare_chars (c ∷ cs) is = let parts = and_parts (is_name_start c) (list_all is_name_char cs) is in (name_start_is_name_char c parts.0, name_chars cs parts.1)

bare_open : (spelled : List ℕ) → EndsOpen (SpellsBareName spelled)
unfolding EndsOpen
bare_open spelled text front is ends = all_pass is_name_char spelled front right_brace_is_no_name_char (bare_chars spelled is.1) (sym is.0 ∙ ends)

name_open : (spelled : List ℕ) → EndsOpen (SpellsName spelled)
name_open spelled = both_open (Optional (One is_bidi)) (SpellsBareName spelled ⋅ Optional (One is_bidi)) mark_open (both_open (SpellsBareName spelled) (Optional (One is_bidi)) (bare_open spelled) mark_open)

namespace_open : (spelled : List ℕ) → EndsOpen (SpellsNamespace spelled)
namespace_open spelled = both_open (SpellsName spelled) (Word (0x3A ∷ [])) (name_open spelled) (character_open 0x3A (λ same. omega (arith, same)))

identifier_open : (node : Identifier) → EndsOpen (SpellsIdentifierNode node)
identifier_open node =
    both_open (Maybe SpellsNamespace (option_map (λ (name : Name). name.spelled) node.namespace)) (SpellsName node.name.spelled)
    (maybe_open SpellsNamespace (option_map (λ (name : Name). name.spelled) node.namespace) namespace_open) (name_open node.name.spelled)

bar_has_some : HasSome (Word (0x7C ∷ []))
unfolding HasSome
bar_has_some same = cc

quoted_open : (value : List ℕ) → EndsOpen (Word (0x7C ∷ []) ⋅ Each SpellsQuotedPart value ⋅ Word (0x7C ∷ []))
quoted_open value =
    last_open (Word (0x7C ∷ [])) (Each SpellsQuotedPart value ⋅ Word (0x7C ∷ []))
    (second_has_some (Each SpellsQuotedPart value) (Word (0x7C ∷ [])) bar_has_some)
    (last_open (Each SpellsQuotedPart value) (Word (0x7C ∷ [])) bar_has_some (character_open 0x7C (λ same. omega (arith, same))))

unquoted_chars : (cs : List ℕ) → is_unquoted cs ≡ true → AllByRecursion (λ c. is_name_char c ≡ true) cs
unquoted_chars [] is = absurd (false≢true is)
unquoted_chars (c ∷ cs) is = name_chars (c ∷ cs) is

literal_open : (value : List ℕ) → EndsOpen (SpellsLiteral value)
unfolding EndsOpen
literal_open value text front (inl quoted) ends = quoted_open value text front quoted ends
literal_open value text front (inr plain) ends = all_pass is_name_char value front right_brace_is_no_name_char (unquoted_chars value plain.1) (sym plain.0 ∙ ends)

variable_open : (node : Name) → EndsOpen (SpellsVariable node)
variable_open node = both_open (Word (codes "$")) (SpellsName node.spelled) (character_open 0x24 (λ same. omega (arith, same))) (name_open node.spelled)

option_value_open : (node : OptionValue) → EndsOpen (SpellsOptionValue node)
option_value_open (OptionValues.Literal value) = literal_open value
option_value_open (OptionValues.Variable name) = variable_open name

equals_open : (Rule : Language) → EndsOpen Rule → EndsOpen (O ⋅ Word (codes "=") ⋅ O ⋅ Rule)
equals_open Rule ends = both_open O (Word (codes "=") ⋅ O ⋅ Rule) space_open (both_open (Word (codes "=")) (O ⋅ Rule) (character_open 0x3D (λ same. omega (arith, same))) (both_open O Rule space_open ends))

spaced_option_open : (node : OptionNode) → EndsOpen (SpellsSpacedOption node)
spaced_option_open node =
    both_open S (SpellsOption node) some_space_open
    (both_open (SpellsIdentifierNode node.name) (O ⋅ Word (codes "=") ⋅ O ⋅ SpellsOptionValue node.value) (identifier_open node.name) (equals_open (SpellsOptionValue node.value) (option_value_open node.value)))

options_open : (nodes : List OptionNode) → EndsOpen (Each SpellsSpacedOption nodes)
options_open nodes = each_open SpellsSpacedOption nodes spaced_option_open

spaced_attribute_open : (node : Attribute) → EndsOpen (SpellsSpacedAttribute node)
spaced_attribute_open node =
    both_open S (SpellsAttribute node) some_space_open
    (both_open (Word (codes "@")) (SpellsIdentifierNode node.name ⋅ Maybe SpellsAttributeValue node.value) (character_open 0x40 (λ same. omega (arith, same)))
    (both_open (SpellsIdentifierNode node.name) (Maybe SpellsAttributeValue node.value) (identifier_open node.name)
    (maybe_open SpellsAttributeValue node.value (λ value. equals_open (SpellsLiteral value) (literal_open value)))))

attributes_open : (nodes : List Attribute) → EndsOpen (Each SpellsSpacedAttribute nodes)
attributes_open nodes = each_open SpellsSpacedAttribute nodes spaced_attribute_open

function_open : (node : Call) → EndsOpen (SpellsFunction node)
function_open node =
    both_open (Word (codes ":")) (SpellsIdentifierNode node.name ⋅ Each SpellsSpacedOption node.options) (character_open 0x3A (λ same. omega (arith, same)))
    (both_open (SpellsIdentifierNode node.name) (Each SpellsSpacedOption node.options) (identifier_open node.name) (options_open node.options))

spaced_function_open : (node : Option Call) → EndsOpen (Maybe SpellsSpacedFunction node)
spaced_function_open node = maybe_open SpellsSpacedFunction node (λ call. both_open S (SpellsFunction call) some_space_open (function_open call))

-- every text of the rule ends with one closing brace, and not with two
record Closes (Rule : Language) : Type 0 where
  once : EndsOnce Rule
  closed : (text : List ℕ) → Rule text → (front : List ℕ) × (text ≡ front ++ 0x7D ∷ [])

not_empty : (front : List ℕ) → [] ≡ front ++ 0x7D ∷ [] → ⊥
not_empty [] same = cc
not_empty (c ∷ front) same = cc

closes_some : (Rule : Language) → Closes Rule → HasSome Rule
unfolding HasSome
closes_some Rule closes spelled = let end = closes.closed [] spelled in not_empty end.0 end.1

closes_behind : (First Second : Language) → EndsOpen First → Closes Second → Closes (First ⋅ Second)
closes_behind First Second ends closes = record {
  once = both_once First Second ends closes.once (closes_some Second closes);
  closed = λ text spelled.
      let end = closes.closed spelled.back spelled.second in
      (spelled.front ++ end.0, spelled.whole ∙ ap (λ cs. spelled.front ++ cs) end.1 ∙ sym (append_assoc spelled.front end.0 (0x7D ∷ [])));
}

not_two : (front : List ℕ) → 0x7D ∷ [] ≡ front ++ 0x7D ∷ 0x7D ∷ [] → ⊥
not_two front same = omega (arith, ap length same, length-append front (0x7D ∷ 0x7D ∷ []))

brace_closes : Closes (Word (codes "}"))
unfolding EndsOnce
brace_closes = record { once = λ text front spelled ends. not_two front (sym spelled ∙ ends); closed = λ text spelled. ([], spelled) }

-- *(s attribute) o "}"
ends_close : (nodes : List Attribute) → Closes (Each SpellsSpacedAttribute nodes ⋅ O ⋅ Word (codes "}"))
ends_close nodes = closes_behind (Each SpellsSpacedAttribute nodes) (O ⋅ Word (codes "}")) (attributes_open nodes) (closes_behind O (Word (codes "}")) space_open brace_closes)

-- "{" o, and then a rule
brace_first : (Rule : Language) → Closes Rule → Closes (Word (codes "{") ⋅ O ⋅ Rule)
brace_first Rule closes = closes_behind (Word (codes "{")) (O ⋅ Rule) (character_open 0x7B (λ same. omega (arith, same))) (closes_behind O Rule space_open closes)

rest_closes : (function : Option Call) (nodes : List Attribute) → Closes (Maybe SpellsSpacedFunction function ⋅ Each SpellsSpacedAttribute nodes ⋅ O ⋅ Word (codes "}"))
rest_closes function nodes = closes_behind (Maybe SpellsSpacedFunction function) (Each SpellsSpacedAttribute nodes ⋅ O ⋅ Word (codes "}")) (spaced_function_open function) (ends_close nodes)

expression_closes : (operand : Operand) (function : Option Call) (nodes : List Attribute) → Closes (SpellsExpressionOf operand function nodes)
unfolding EndsOnce
expression_closes (Operands.Literal value) function nodes =
    brace_first (SpellsLiteral value ⋅ Maybe SpellsSpacedFunction function ⋅ Each SpellsSpacedAttribute nodes ⋅ O ⋅ Word (codes "}"))
    (closes_behind (SpellsLiteral value) (Maybe SpellsSpacedFunction function ⋅ Each SpellsSpacedAttribute nodes ⋅ O ⋅ Word (codes "}")) (literal_open value) (rest_closes function nodes))
expression_closes (Operands.Variable name) function nodes =
    brace_first (SpellsVariable name ⋅ Maybe SpellsSpacedFunction function ⋅ Each SpellsSpacedAttribute nodes ⋅ O ⋅ Word (codes "}"))
    (closes_behind (SpellsVariable name) (Maybe SpellsSpacedFunction function ⋅ Each SpellsSpacedAttribute nodes ⋅ O ⋅ Word (codes "}")) (variable_open name) (rest_closes function nodes))
expression_closes Operands.Absent None nodes = record { once = λ text front spelled ends. spelled; closed = λ text spelled. absurd spelled }
expression_closes Operands.Absent (Some call) nodes =
    let closes =
    brace_first (SpellsFunction call ⋅ Each SpellsSpacedAttribute nodes ⋅ O ⋅ Word (codes "}"))
    (closes_behind (SpellsFunction call) (Each SpellsSpacedAttribute nodes ⋅ O ⋅ Word (codes "}")) (function_open call) (ends_close nodes)) in
    record { once = closes.once; closed = closes.closed }

markup_behind : (sign : ℕ) (name : Identifier) (options : List OptionNode) (Rule : Language) → (sign ≡ 0x7D → ⊥) → Closes Rule →
    Closes (Word (codes "{") ⋅ O ⋅ Word (sign ∷ []) ⋅ SpellsIdentifierNode name ⋅ Each SpellsSpacedOption options ⋅ Rule)
markup_behind sign name options Rule other closes =
    brace_first (Word (sign ∷ []) ⋅ SpellsIdentifierNode name ⋅ Each SpellsSpacedOption options ⋅ Rule)
    (closes_behind (Word (sign ∷ [])) (SpellsIdentifierNode name ⋅ Each SpellsSpacedOption options ⋅ Rule) (character_open sign other)
    (closes_behind (SpellsIdentifierNode name) (Each SpellsSpacedOption options ⋅ Rule) (identifier_open name)
    (closes_behind (Each SpellsSpacedOption options) Rule (options_open options) closes)))

start_closes : (name : Identifier) (options : List OptionNode) (nodes : List Attribute) → Closes (SpellsMarkupOf Forms.Start name options nodes)
start_closes name options nodes = markup_behind 0x23 name options (Each SpellsSpacedAttribute nodes ⋅ O ⋅ Word (codes "}")) (λ same. omega (arith, same)) (ends_close nodes)

slash_closes : (nodes : List Attribute) → Closes (Each SpellsSpacedAttribute nodes ⋅ O ⋅ Word (codes "/") ⋅ Word (codes "}"))
slash_closes nodes =
    closes_behind (Each SpellsSpacedAttribute nodes) (O ⋅ Word (codes "/") ⋅ Word (codes "}")) (attributes_open nodes)
    (closes_behind O (Word (codes "/") ⋅ Word (codes "}")) space_open (closes_behind (Word (codes "/")) (Word (codes "}")) (character_open 0x2F (λ same. omega (arith, same))) brace_closes))

standalone_closes : (name : Identifier) (options : List OptionNode) (nodes : List Attribute) → Closes (SpellsMarkupOf Forms.Standalone name options nodes)
standalone_closes name options nodes =
    markup_behind 0x23 name options (Each SpellsSpacedAttribute nodes ⋅ O ⋅ Word (codes "/") ⋅ Word (codes "}")) (λ same. omega (arith, same)) (slash_closes nodes)

end_closes : (name : Identifier) (options : List OptionNode) (nodes : List Attribute) → Closes (SpellsMarkupOf Forms.End name options nodes)
end_closes name options nodes = markup_behind 0x2F name options (Each SpellsSpacedAttribute nodes ⋅ O ⋅ Word (codes "}")) (λ same. omega (arith, same)) (ends_close nodes)

markup_closes : (form : Form) (name : Identifier) (options : List OptionNode) (nodes : List Attribute) → Closes (SpellsMarkupOf form name options nodes)
markup_closes Forms.Start name options nodes = start_closes name options nodes
markup_closes Forms.Standalone name options nodes = standalone_closes name options nodes
markup_closes Forms.End name options nodes = end_closes name options nodes

placeholder_closes : (node : Piece) → Closes (SpellsPlaceholder node)
unfolding EndsOnce
placeholder_closes (Pieces.Text value) = record { once = λ text front spelled ends. spelled; closed = λ text spelled. absurd spelled }
placeholder_closes (Pieces.Expression node) =
    let closes = expression_closes node.operand node.function node.attributes in
    record { once = closes.once; closed = closes.closed }
placeholder_closes (Pieces.Markup node) =
    let closes = markup_closes node.form node.name node.options node.attributes in
    record { once = closes.once; closed = closes.closed }

head_or : List ℕ → ℕ
head_or [] = 0
head_or (c ∷ cs) = c

-- no item ends with two braces and space
short_item : (c : ℕ) (front space : List ℕ) → c ∷ [] ≡ front ++ 0x7D ∷ 0x7D ∷ space → ⊥
short_item c front space same = omega (arith, ap length same, length-append front (0x7D ∷ 0x7D ∷ space))

escape_item : (c : ℕ) (front space : List ℕ) → 0x5C ∷ c ∷ [] ≡ front ++ 0x7D ∷ 0x7D ∷ space → ⊥
unfolding head_or
escape_item c [] space same = let heads : ◌≡◌ {A = ℕ} 0x5C 0x7D = ap head_or same in omega (arith, heads)
escape_item c (d ∷ front) space same = omega (arith, ap length same, length-append front (0x7D ∷ 0x7D ∷ space))

item_open : (item : Item) (text front space : List ℕ) → SpellsItem item text → O space → text ≡ front ++ 0x7D ∷ 0x7D ∷ space → ⊥
unfolding EndsOnce
item_open (character c) text front space (inl plain) spaces ends = short_item c front space (sym plain.0 ∙ ends)
item_open (character c) text front space (inr escape) spaces ends = escape_item c front space (sym escape.0 ∙ ends)
item_open (placeholder node) text front space spelled spaces ends =
    let closes = placeholder_closes node in
    let end = closes.closed text spelled in
    let whole : (front ++ 0x7D ∷ 0x7D ∷ []) ++ space ≡ end.0 ++ 0x7D ∷ [] = append_assoc front (0x7D ∷ 0x7D ∷ []) space ∙ sym ends ∙ end.1 in
    elim (last_of (front ++ 0x7D ∷ 0x7D ∷ []) space end.0 0x7D whole) [
      | inl here ↦ closes.once text front spelled (ends ∙ ap (λ space. front ++ 0x7D ∷ 0x7D ∷ space) here.0)
      | inr there ↦ all_pass is_space space there.0 refl spaces there.1
    ]

-- two ways to cut one list
cut : (a b c d : List ℕ) → a ++ b ≡ c ++ d → ((m : List ℕ) × (c ≡ a ++ m) × (b ≡ m ++ d)) ⊎ ((m : List ℕ) × (a ≡ c ++ m) × (d ≡ m ++ b))
cut [] b c d same = inl (c, refl, same)
cut (x ∷ a) b [] d same = inr (x ∷ a, refl, sym same)
cut (x ∷ a) b (y ∷ c) d same =
    let head : x ≡ y = cc in
    let tail : a ++ b ≡ c ++ d = cc in
    elim (cut a b c d tail) [
      | inl m ↦ inl (m.0, ap (λ c. y ∷ c) m.1 ∙ ap (λ x. x ∷ a ++ m.0) (sym head), m.2)
      | inr m ↦ inr (m.0, ap (λ a. x ∷ a) m.1 ∙ ap (λ x. x ∷ c ++ m.0) head, m.2)
    ]

no_brace_first : (items : List Item) (text rest : List ℕ) → SpellsItems items text → text ≡ 0x7D ∷ rest → ⊥
no_brace_first [] text rest spelled at = cc
no_brace_first (item ∷ items) text rest spelled at =
    let begins : Begins (SpellsItem item) text spelled.back = record { taken = spelled.front; whole = spelled.whole; is = spelled.first } in
    false≢true (ap goes_on (sym at) ∙ (item_complete item text spelled.back begins).0)

all_behind : (front back : List ℕ) → O (front ++ back) → O front
all_behind [] back all = tt
all_behind (c ∷ front) back all = (all.0, all_behind front back all.1)

pub pattern_open : (items : List Item) (text front space : List ℕ) → SpellsItems items text → O space → text ≡ front ++ 0x7D ∷ 0x7D ∷ space → ⊥
pattern_open [] text front space spelled spaces ends = omega (arith, ap length (sym spelled ∙ ends), length-append front (0x7D ∷ 0x7D ∷ space))
pattern_open (item ∷ items) text front space spelled spaces ends =
    elim (cut spelled.front spelled.back front (0x7D ∷ 0x7D ∷ space) (sym spelled.whole ∙ ends)) [
      | inl m ↦ pattern_open items spelled.back m.0 space spelled.second spaces m.2
      | inr m ↦ within m.0 m.1 m.2
    ] where
      within : (m : List ℕ) → spelled.front ≡ front ++ m → 0x7D ∷ 0x7D ∷ space ≡ m ++ spelled.back → ⊥
      within [] first rest = no_brace_first items spelled.back (0x7D ∷ space) spelled.second (sym rest)
      within (a ∷ []) first rest = no_brace_first items spelled.back space spelled.second (cc)
      within (a ∷ b ∷ m) first rest =
          let one : a ≡ 0x7D = cc in
          let two : b ≡ 0x7D = cc in
          let same : space ≡ m ++ spelled.back = cc in
          item_open item spelled.front front m spelled.first (all_behind m spelled.back (subst O same spaces)) (first ∙ ap (λ a. front ++ a ∷ b ∷ m) one ∙ ap (λ b. front ++ 0x7D ∷ b ∷ m) two)

-- every text of the rule ends with two closing braces
ClosesTwice : Language → Type 0
ClosesTwice Rule = (text : List ℕ) → Rule text → (front : List ℕ) × (text ≡ front ++ 0x7D ∷ 0x7D ∷ [])

twice_behind : (First Second : Language) → ClosesTwice Second → ClosesTwice (First ⋅ Second)
unfolding ClosesTwice
twice_behind First Second twice text spelled =
    let end = twice spelled.back spelled.second in
    (spelled.front ++ end.0, spelled.whole ∙ ap (λ cs. spelled.front ++ cs) end.1 ∙ sym (append_assoc spelled.front end.0 (0x7D ∷ 0x7D ∷ [])))

quoted_twice : (pieces : List Piece) → ClosesTwice (SpellsQuotedPattern pieces)
unfolding ClosesTwice
quoted_twice pieces text spelled =
    let inner = spelled.spelled in
    let close = inner.second in
    (inner.front ++ close.front, inner.whole ∙ ap (λ cs. inner.front ++ cs) (close.whole ∙ ap (λ cs. close.front ++ cs) close.second) ∙ sym (append_assoc inner.front close.front (0x7D ∷ 0x7D ∷ [])))

variant_twice : (node : Variant) → ClosesTwice (SpellsVariant node)
variant_twice node = twice_behind _ (O ⋅ SpellsQuotedPattern node.pattern) (twice_behind O (SpellsQuotedPattern node.pattern) (quoted_twice node.pattern))

each_twice : (First : Language) (nodes : List Variant) → ClosesTwice First → ClosesTwice (First ⋅ Each SpellsFurtherVariant nodes)
unfolding ClosesTwice
each_twice First [] twice text spelled =
    let end = twice spelled.front spelled.first in
    (end.0, spelled.whole ∙ ap (λ cs. spelled.front ++ cs) spelled.second ∙ append-nil spelled.front ∙ end.1)
each_twice First (node ∷ nodes) twice text spelled =
    twice_behind First (SpellsFurtherVariant node ⋅ Each SpellsFurtherVariant nodes) (each_twice (SpellsFurtherVariant node) nodes (twice_behind O (SpellsVariant node) (variant_twice node))) text spelled

variants_twice : (nodes : List Variant) → ClosesTwice (SpellsVariants nodes)
unfolding ClosesTwice
variants_twice [] text spelled = absurd spelled
variants_twice (node ∷ nodes) text spelled = each_twice (SpellsVariant node) nodes (variant_twice node) text spelled

body_twice : (body : Body) → ClosesTwice (SpellsComplexBody body)
body_twice (Bodies.Pattern pieces) = quoted_twice pieces
body_twice (Bodies.Match selectors nodes) = twice_behind _ _ (twice_behind _ (S ⋅ SpellsVariants nodes) (twice_behind S (SpellsVariants nodes) (variants_twice nodes)))

-- a complex message is no pattern
pub complex_is_no_pattern : (message : Message) (items : List Item) (text : List ℕ) → SpellsComplexMessage message text → SpellsItems items text → ⊥
unfolding ClosesTwice
complex_is_no_pattern message items text complex spelled =
    let rest = complex.second in
    let body = rest.second in
    let end = body_twice message.body body.front body.first in
    pattern_open items text (complex.front ++ rest.front ++ end.0) body.back spelled body.second
    (complex.whole ∙ ap (λ cs. complex.front ++ cs) (rest.whole ∙ ap (λ cs. rest.front ++ cs) (body.whole ∙ ap (λ cs. cs ++ body.back) end.1 ∙ append_assoc end.0 (0x7D ∷ 0x7D ∷ []) body.back))
    ∙ regroup complex.front rest.front end.0 (0x7D ∷ 0x7D ∷ body.back)) where
      regroup : (a b c d : List ℕ) → a ++ (b ++ (c ++ d)) ≡ ((a ++ b) ++ c) ++ d
      regroup a b c d = sym (append_assoc a b (c ++ d)) ∙ sym (append_assoc (a ++ b) c d)
