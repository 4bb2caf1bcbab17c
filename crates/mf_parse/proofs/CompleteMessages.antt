-- What is spelled is found: patterns, declarations, matchers and complex messages.
use Rattle.std.proofs.Common.{◌≡◌, ◌<◌, ℕ, Bool, true, false, ◌==◌, ◌&&◌, not, Option, Some, List, [], ◌∷◌, ◌++◌, refl, ap, sym, ◌∙◌, subst, inl, inr, length, arith}
use Rattle.std.proofs.lemmas.Bool.{cases_Bool, cond-true, cond-false, and_parts, and_from, or_left, or_right, eq-eqb, eqb-true, false≢true}
use Rattle.std.proofs.lemmas.List.{length-append}
use Rattle.std.specs.Option.{option_and_then}
use Rattle.std.specs.Prelude.{codes}
use Rattle.mf_text.specs.Characters.{is_text, is_name_char, is_escapable}
use Rattle.mf_text.specs.Languages.{Language, Word, ◌⋅◌, Each, Begins}
use Rattle.mf_text.specs.Grammar.{O, S}
use Rattle.mf_lex.specs.Computed.{is_next, one_at, after_space, has_space, escaped, literal_at}
use Rattle.mf_lex.proofs.Begins.{parted, begins_whole}
use Rattle.mf_lex.proofs.Escapes.{one_next}
use Rattle.mf_lex.proofs.Gathering.{one_parts}
use Rattle.mf_lex.proofs.Literals.{literal_complete}
use Rattle.mf_lex.proofs.Members.{dollar_is_no_name_char, left_brace_is_no_name_char, star_is_no_name_char}
use Rattle.mf_lex.proofs.Names.{mapped_parts}
use Rattle.mf_lex.proofs.Spaces.{o_passes}
use Rattle.mf_tree.specs.Grammar.{Item, character, placeholder, pattern_of, EachOfSome, SpellsPlaceholder, SpellsItem, SpellsItems, SpellsQuotedPattern, SpellsVariable, SpellsVariableExpression, SpellsExpression, SpellsInputOf, SpellsLocalDeclaration, SpellsDeclaration, SpellsDeclarationAndSpace, SpellsKey, SpellsSpacedKey, SpellsKeys, SpellsVariant, SpellsFurtherVariant, SpellsVariants, SpellsSelector, SpellsMatcher, SpellsComplexBody, SpellsComplexMessage}
use Rattle.mf_tree.specs.declared.name.Name.{Name}
use Rattle.mf_tree.specs.declared.expression.Operand.{Operand}
use Rattle.mf_tree.specs.declared.expression.Expression.{Expression}
use Rattle.mf_tree.specs.declared.expression.Call.{Call}
use Rattle.mf_tree.specs.declared.expression.Attribute.{Attribute}
use Rattle.mf_tree.specs.declared.pattern.Piece.{Piece}
use Rattle.mf_tree.specs.declared.message.Key.{Key}
use Rattle.mf_tree.specs.declared.message.Variant.{Variant}
use Rattle.mf_tree.specs.declared.message.Declaration.{Declaration}
use Rattle.mf_tree.specs.declared.message.Body.{Body}
use Rattle.mf_tree.specs.declared.message.Message.{Message}
use Rattle.mf_tree.specs.declared.expression.Operand.TheVariants as Operands
use Rattle.mf_tree.specs.declared.message.Key.TheVariants as Keys
use Rattle.mf_tree.specs.declared.message.Declaration.TheVariants as Declarations
use Rattle.mf_tree.specs.declared.message.Body.TheVariants as Bodies
use Rattle.mf_parse.specs.Computed.{Found, made, followed, placed, onto, many, word_at, is_word_at, is_at, is_spaced, variable_at, rest_of_expression_at, behind_equals, inside, inner_expression_at, expression_at, expression_node, inner_placeholder_at, placeholder_at, item_at, goes_on, pattern_at, quoted_pattern_at, input_node, input_at, local_node, local_rest, local_at, begins_declaration, declaration_at, spaced_declaration_at, declarations_at, key_at, begins_key, spaced_key_at, further_keys_at, keys_at, variant_node, variant_at, begins_variant, spaced_variant_at, further_variants_at, variants_at, spaced_variable_at, selectors_at, match_node, match_at, matcher_at, body_at, message_node, whole, complex_at}
use Rattle.mf_parse.proofs.Finding.{followed_by, behind_by, behind_parts, made_by, placed_by, many_stop, many_some, Shortens}
use Rattle.mf_parse.proofs.Heads.{spaced, with_space, with_some_space}
use Rattle.mf_parse.proofs.Places.{IsPast, past_space, past_some, past_spaced, Reaches, Stops, stops_before, stops_spaced, at_itself, word_only, space_first, some_space_first, some_space_is_longer, shorter}
use Rattle.mf_parse.proofs.Sound.{variable_sound}
use Rattle.mf_parse.proofs.SoundMessages.{item_sound, spaced_declaration_sound, key_sound, variant_sound}
use Rattle.mf_parse.proofs.Complete.{variable_complete, variable_here, literal_here, literal_at_itself, literal_is_not_at, each_stops, equals_first, behind_equals_is, stops_at_equals}
use Rattle.mf_parse.proofs.CompletePlaceholders.{RestOf, inside_is, rest_stops, rest_complete, expression_complete, placeholder_complete}

-- each of some that are found alone is found, up to what stops them
each_follows : {X : Type 0} (Spells : X → Language) (Follows : List ℕ → Type 0) → ((x : X) (cs left : List ℕ) → Begins (Spells x) cs left → Follows cs) →
    (xs : List X) (cs left : List ℕ) → Begins (Each Spells xs) cs left → Follows left → Follows cs
each_follows Spells Follows starts [] cs left begins follows = subst Follows (sym (begins.whole ∙ ap (λ cs. cs ++ left) begins.is)) follows
each_follows Spells Follows starts (x ∷ xs) cs left begins follows =
    let parts = parted (Spells x) (Each Spells xs) cs left begins in
    starts x cs parts.between parts.first

many_complete : {X : Type 0} (Spells : X → Language) (begins : List ℕ → Bool) (at : List ℕ → Found X) (Follows : List ℕ → Type 0) → begins [] ≡ false → Shortens begins at →
    ((x : X) (cs left : List ℕ) → Begins (Spells x) cs left → Follows cs) →
    ((x : X) (cs left : List ℕ) → Begins (Spells x) cs left → Follows left → (begins cs ≡ true) × (at cs ≡ Some (x, left))) →
    (xs : List X) (cs left : List ℕ) → Begins (Each Spells xs) cs left → Follows left → begins left ≡ false → many begins at cs ≡ Some (xs, left)
many_complete Spells begins at Follows empty shortens starts each [] cs left is follows ends =
    let same : cs ≡ left = is.whole ∙ ap (λ cs. cs ++ left) is.is in
    many_stop begins at cs (ap begins same ∙ ends) ∙ ap (λ cs. Some ([], cs)) same
many_complete Spells begins at Follows empty shortens starts each (x ∷ xs) cs left is follows ends =
    let parts = parted (Spells x) (Each Spells xs) cs left is in
    let first = each x cs parts.between parts.first (each_follows Spells Follows starts xs parts.between left parts.second follows) in
    many_some begins at empty shortens cs x parts.between first.0 first.1
    ∙ made_by (onto x) (many begins at parts.between) xs left (many_complete Spells begins at Follows empty shortens starts each xs parts.between left parts.second follows ends)

-- a text at which a test holds that fails at the end has one character at least
longer_by : (test : List ℕ → Bool) (text : List ℕ) → test [] ≡ false → test text ≡ true → 0 < length text
longer_by test [] empty holds = absurd (false≢true (sym empty ∙ holds))
longer_by test (c ∷ text) empty holds = omega (arith)

-- a placeholder and an expression begin with a brace
inside_here : (cs middle : List ℕ) → inside cs ≡ Some middle → (rest : List ℕ) × (cs ≡ 0x7B ∷ rest)
unfolding inside
inside_here cs middle is =
    let brace = mapped_parts after_space (one_at 0x7B cs) middle is in
    (brace.0, one_parts 0x7B cs brace.0 brace.1)

found_placeholder : (cs : List ℕ) (node : Piece) (left : List ℕ) → placeholder_at cs ≡ Some (node, left) → (rest : List ℕ) × (cs ≡ 0x7B ∷ rest)
unfolding placeholder_at
found_placeholder cs node left finds = let brace = behind_parts (inside cs) inner_placeholder_at (node, left) finds in inside_here cs brace.0 brace.1

pub placeholder_here : (node : Piece) (cs left : List ℕ) → Begins (SpellsPlaceholder node) cs left → (rest : List ℕ) × (cs ≡ 0x7B ∷ rest)
placeholder_here node cs left begins = found_placeholder cs node left (placeholder_complete node cs left begins)

found_expression : (cs : List ℕ) (node : Expression) (left : List ℕ) → expression_at cs ≡ Some (node, left) → (rest : List ℕ) × (cs ≡ 0x7B ∷ rest)
unfolding expression_at
found_expression cs node left finds = let brace = behind_parts (inside cs) inner_expression_at (node, left) finds in inside_here cs brace.0 brace.1

expression_here : (node : Expression) (cs left : List ℕ) → Begins (SpellsExpression node) cs left → (rest : List ℕ) × (cs ≡ 0x7B ∷ rest)
expression_here node cs left begins = found_expression cs node left (expression_complete node cs left begins)

text_is_no_brace : (c : ℕ) → is_text c ≡ true → not (c == 0x7D) ≡ true
text_is_no_brace c text =
    elim (cases_Bool (c == 0x7D)) [
      | inl brace ↦ absurd (false≢true (subst (λ (c : ℕ). is_text c ≡ true) (eqb-true c 0x7D brace) text))
      | inr other ↦ ap not other
    ]

pub item_complete : (item : Item) (cs left : List ℕ) → Begins (SpellsItem item) cs left → (goes_on cs ≡ true) × (item_at cs ≡ Some (item, left))
item_complete (character c) cs left begins =
    elim begins.is [
      | inl plain ↦
          let at : cs ≡ c ∷ left = begins.whole ∙ ap (λ cs. cs ++ left) plain.0 in
          (ap goes_on at ∙ text_is_no_brace c plain.1, ap item_at at ∙ cond-true (is_text c) _ _ plain.1)
      | inr escape ↦
          let at : cs ≡ 0x5C ∷ c ∷ left = begins.whole ∙ ap (λ cs. cs ++ left) escape.0 in
          (ap goes_on at, ap item_at at ∙ made_by character (escaped (c ∷ left)) c left (cond-true (is_escapable c) _ _ escape.1))
    ]
item_complete (placeholder piece) cs left begins =
    let inner : Begins (SpellsPlaceholder piece) cs left = record { taken = begins.taken; whole = begins.whole; is = begins.is } in
    let here = placeholder_here piece cs left inner in (
      ap goes_on here.1,
      ap item_at here.1 ∙ ap (λ cs. made placeholder (placeholder_at cs)) (sym here.1) ∙ made_by placeholder (placeholder_at cs) piece left (placeholder_complete piece cs left inner),
    )

pub items_shorten : Shortens goes_on item_at
items_shorten cs item left some finds =
    shorter (SpellsItem item) cs left (λ text is. longer_by goes_on text refl (item_complete item text [] (begins_whole (SpellsItem item) text is)).0) (item_sound cs item left finds)

pub pattern_complete : (items : List Item) (cs left : List ℕ) → Begins (SpellsItems items) cs left → goes_on left ≡ false → pattern_at cs ≡ Some (pattern_of items, left)
unfolding pattern_at
pattern_complete items cs left begins ends =
    made_by pattern_of (many goes_on item_at cs) items left
    (many_complete SpellsItem goes_on item_at (λ cs. Unit {0}) refl items_shorten (λ item cs left is. tt) (λ item cs left is u. item_complete item cs left is) items cs left begins tt ends)

pub word_next : (word rest : List ℕ) → word_at word (word ++ rest) ≡ Some rest
word_next [] rest = refl
word_next (c ∷ word) rest = ap (option_and_then (word_at word)) (one_next c (word ++ rest)) ∙ word_next word rest

pub is_word_next : (word rest : List ℕ) → is_word_at word (word ++ rest) ≡ true
is_word_next [] rest = refl
is_word_next (c ∷ word) rest = and_from (c == c) (is_word_at word (word ++ rest)) (eq-eqb c c refl) (is_word_next word rest)

-- a word, and then a rule
word_behind : (word : List ℕ) (Rule : Language) (cs left : List ℕ) → Begins (Word word ⋅ Rule) cs left → (middle : List ℕ) × (cs ≡ word ++ middle) × Begins Rule middle left
word_behind word Rule cs left begins =
    let parts = parted (Word word) Rule cs left begins in
    (parts.between, parts.first.whole ∙ ap (λ cs. cs ++ parts.between) parts.first.is, parts.second)

pub quoted_here : (pieces : List Piece) (cs left : List ℕ) → Begins (SpellsQuotedPattern pieces) cs left → (rest : List ℕ) × (cs ≡ 0x7B ∷ 0x7B ∷ rest)
quoted_here pieces cs left begins =
    let word = word_behind (codes "{{") (SpellsItems begins.is.items ⋅ Word (codes "}}")) cs left (record { taken = begins.taken; whole = begins.whole; is = begins.is.spelled }) in
    (word.0, word.1)

pub quoted_pattern_complete : (pieces : List Piece) (cs left : List ℕ) → Begins (SpellsQuotedPattern pieces) cs left → quoted_pattern_at cs ≡ Some (pieces, left)
unfolding quoted_pattern_at
quoted_pattern_complete pieces cs left begins =
    let items = begins.is.items in
    let word = word_behind (codes "{{") (SpellsItems items ⋅ Word (codes "}}")) cs left (record { taken = begins.taken; whole = begins.whole; is = begins.is.spelled }) in
    let parts = parted (SpellsItems items) (Word (codes "}}")) word.0 left word.2 in
    let close : parts.between ≡ codes "}}" ++ left = parts.second.whole ∙ ap (λ cs. cs ++ left) parts.second.is in
    behind_by (word_at (codes "{{") cs) (λ left. followed (pattern_at left) (λ pattern left. placed pattern (word_at (codes "}}") left))) word.0 (ap (word_at (codes "{{")) word.1 ∙ word_next (codes "{{") word.0)
    ∙ followed_by (pattern_at word.0) (λ pattern left. placed pattern (word_at (codes "}}") left)) (pattern_of items) parts.between (pattern_complete items word.0 parts.between parts.first (ap goes_on close))
    ∙ placed_by (pattern_of items) (word_at (codes "}}") parts.between) left (ap (word_at (codes "}}")) close ∙ word_next (codes "}}") left)
    ∙ ap (λ pieces. Some (pieces, left)) (sym begins.is.meant)

-- what is found of a declaration
pub record IsDeclared (node : Declaration) (cs left : List ℕ) : Type 0 where
  pub starts : begins_declaration cs ≡ true
  pub at : after_space cs ≡ cs
  pub is : declaration_at cs ≡ Some (node, left)

input_complete : (name operand : Name) (function : Option Call) (nodes : List Attribute) (cs left : List ℕ) → operand ≡ name → Begins (Word (codes ".input") ⋅ O ⋅ SpellsVariableExpression operand function nodes) cs left →
    IsDeclared (input_node name (expression_node (Operands.Variable operand) function nodes)) cs left
unfolding declaration_at input_at
input_complete name operand function nodes cs left same begins =
    let word = word_behind (codes ".input") (O ⋅ SpellsVariableExpression operand function nodes) cs left begins in
    let space = space_first (SpellsVariableExpression operand function nodes) word.0 left word.2 in
    let brace = inside_is (SpellsVariable operand ⋅ RestOf function nodes) space.middle left space.begins in
    let first = inside_here space.middle (after_space brace.0) brace.1 in
    let parts = parted (SpellsVariable operand) (RestOf function nodes) brace.0 left brace.2 in
    let here = variable_here operand brace.0 parts.between parts.first in
    let variable = variable_complete operand brace.0 parts.between parts.first (rest_stops function nodes parts.between left parts.second) in
    let at : after_space word.0 ≡ space.middle = space.same ∙ ap after_space first.1 ∙ at_itself 0x7B first.0 refl ∙ sym first.1 in
    let inner : after_space brace.0 ≡ brace.0 = ap after_space here.1 ∙ at_itself 0x24 here.0 refl ∙ sym here.1 in record {
      starts = or_left (is_word_at (codes ".input") cs) (is_word_at (codes ".local") cs) (ap (is_word_at (codes ".input")) word.1 ∙ is_word_next (codes ".input") word.0);
      at = ap after_space word.1 ∙ at_itself 0x2E (codes "input" ++ word.0) refl ∙ sym word.1;
      is =
          cond-true (is_word_at (codes ".input") cs) _ _ (ap (is_word_at (codes ".input")) word.1 ∙ is_word_next (codes ".input") word.0)
          ∙ behind_by (word_at (codes ".input") cs) input_at word.0 (ap (word_at (codes ".input")) word.1 ∙ word_next (codes ".input") word.0)
          ∙ behind_by (inside (after_space word.0)) _ brace.0 (ap inside at ∙ brace.1 ∙ ap Some inner)
          ∙ followed_by (variable_at brace.0) _ operand variable.place variable.is
          ∙ made_by (input_node operand) (rest_of_expression_at (Operands.Variable operand) variable.place) (expression_node (Operands.Variable operand) function nodes) left
          (rest_complete (Operands.Variable operand) function nodes parts.between left variable.place parts.second variable.past)
          ∙ ap (λ (name : Name). Some (input_node name (expression_node (Operands.Variable operand) function nodes), left)) same;
    }

local_complete : (name : Name) (node : Expression) (cs left : List ℕ) → Begins (SpellsLocalDeclaration name node) cs left → IsDeclared (local_node name node) cs left
unfolding declaration_at local_at local_rest
local_complete name node cs left begins =
    let word = word_behind (codes ".local") (S ⋅ SpellsVariable name ⋅ O ⋅ Word (codes "=") ⋅ O ⋅ SpellsExpression node) cs left begins in
    let space = some_space_first (SpellsVariable name ⋅ O ⋅ Word (codes "=") ⋅ O ⋅ SpellsExpression node) word.0 left word.2 in
    let parts = parted (SpellsVariable name) (O ⋅ Word (codes "=") ⋅ O ⋅ SpellsExpression node) space.1.middle left space.1.begins in
    let here = variable_here name space.1.middle parts.between parts.first in
    let equals = equals_first (SpellsExpression node) parts.between left parts.second in
    let variable = variable_complete name space.1.middle parts.between parts.first (stops_at_equals (SpellsExpression node) parts.between left equals) in
    let brace = expression_here node equals.middle left equals.begins in
    let at : after_space word.0 ≡ space.1.middle = space.1.same ∙ ap after_space here.1 ∙ at_itself 0x24 here.0 refl ∙ sym here.1 in record {
      starts = or_right (is_word_at (codes ".input") cs) (is_word_at (codes ".local") cs) (ap (is_word_at (codes ".local")) word.1 ∙ is_word_next (codes ".local") word.0);
      at = ap after_space word.1 ∙ at_itself 0x2E (codes "local" ++ word.0) refl ∙ sym word.1;
      is =
          cond-false (is_word_at (codes ".input") cs) _ _ (ap (is_word_at (codes ".input")) word.1)
          ∙ behind_by (word_at (codes ".local") cs) local_at word.0 (ap (word_at (codes ".local")) word.1 ∙ word_next (codes ".local") word.0)
          ∙ cond-true (has_space word.0) _ _ space.0
          ∙ followed_by (variable_at (after_space word.0)) _ name variable.place (ap variable_at at ∙ variable.is)
          ∙ behind_by (behind_equals variable.place) _ equals.middle
          (behind_equals_is (SpellsExpression node) parts.between left variable.place equals variable.past ∙ ap Some (ap after_space brace.1 ∙ at_itself 0x7B brace.0 refl ∙ sym brace.1))
          ∙ made_by (local_node name) (expression_at equals.middle) node left (expression_complete node equals.middle left equals.begins);
    }

input_of : (name : Name) (operand : Operand) (function : Option Call) (nodes : List Attribute) (cs left : List ℕ) → Begins (SpellsInputOf name operand function nodes) cs left →
    IsDeclared (input_node name (expression_node operand function nodes)) cs left
input_of name (Operands.Variable operand) function nodes cs left begins = input_complete name operand function nodes cs left begins.is.0 (record { taken = begins.taken; whole = begins.whole; is = begins.is.1 })
input_of name (Operands.Literal value) function nodes cs left begins = absurd begins.is
input_of name Operands.Absent function nodes cs left begins = absurd begins.is

declaration_complete : (node : Declaration) (cs left : List ℕ) → Begins (SpellsDeclaration node) cs left → IsDeclared node cs left
declaration_complete (Declarations.Input name node) cs left begins = input_of name node.operand node.function node.attributes cs left begins
declaration_complete (Declarations.Local name node) cs left begins = local_complete name node cs left begins

declaration_is_longer : (node : Declaration) (text : List ℕ) → SpellsDeclarationAndSpace node text → 0 < length text
declaration_is_longer node text spelled =
    let front = longer_by begins_declaration spelled.front refl (declaration_complete node spelled.front [] (begins_whole (SpellsDeclaration node) spelled.front spelled.first)).starts in
    omega (arith, front, ap length spelled.whole, length-append spelled.front spelled.back)

pub declarations_shorten : Shortens begins_declaration spaced_declaration_at
declarations_shorten cs node left some finds = shorter (SpellsDeclarationAndSpace node) cs left (declaration_is_longer node) (spaced_declaration_sound cs node left finds)

-- no space is next
abbrev IsAtItself : List ℕ → Type 0
IsAtItself cs = after_space cs ≡ cs

spaced_declaration_complete : (node : Declaration) (cs left : List ℕ) → Begins (SpellsDeclarationAndSpace node) cs left → IsAtItself left → (begins_declaration cs ≡ true) × (spaced_declaration_at cs ≡ Some (node, left))
spaced_declaration_complete node cs left begins at =
    let parts = parted (SpellsDeclaration node) O cs left begins in
    let declared = declaration_complete node cs parts.between parts.first in (
      declared.starts,
      followed_by (declaration_at cs) (λ declaration left. Some (declaration, after_space left)) node parts.between declared.is ∙ ap (λ left. Some (node, left)) (o_passes parts.between left parts.second ∙ at),
    )

declaration_at_itself : (node : Declaration) (cs left : List ℕ) → Begins (SpellsDeclarationAndSpace node) cs left → IsAtItself cs
declaration_at_itself node cs left begins =
    let parts = parted (SpellsDeclaration node) O cs left begins in
    (declaration_complete node cs parts.between parts.first).at

declarations_complete : (nodes : List Declaration) (cs left : List ℕ) → Begins (Each SpellsDeclarationAndSpace nodes) cs left → IsAtItself left → begins_declaration left ≡ false →
    declarations_at cs ≡ Some (nodes, left)
unfolding declarations_at
declarations_complete nodes cs left begins at ends =
    many_complete SpellsDeclarationAndSpace begins_declaration spaced_declaration_at IsAtItself refl declarations_shorten declaration_at_itself spaced_declaration_complete nodes cs left begins at ends

-- what is found of a key: it begins with no space, no brace and no dollar sign
record IsKey (node : Key) (cs left : List ℕ) : Type 0 where
  is : key_at cs ≡ Some (node, left)
  at : after_space cs ≡ cs
  no_brace : is_at 0x7B cs ≡ false
  no_dollar : is_at 0x24 cs ≡ false
  some : is_next (λ c. true) cs ≡ true

key_complete : (node : Key) (cs left : List ℕ) → Begins (SpellsKey node) cs left → is_next is_name_char left ≡ false → IsKey node cs left
unfolding key_at
key_complete (Keys.Literal value) cs left begins ends =
    let here = literal_here value cs left begins in record {
      is = cond-false (is_at 0x2A cs) _ _ (literal_is_not_at 0x2A value cs left star_is_no_name_char refl begins) ∙ made_by Keys.Literal (literal_at cs) value left (literal_complete value cs left begins ends);
      at = literal_at_itself value cs left begins;
      no_brace = literal_is_not_at 0x7B value cs left left_brace_is_no_name_char refl begins;
      no_dollar = literal_is_not_at 0x24 value cs left dollar_is_no_name_char refl begins;
      some = ap (is_next (λ c. true)) here.2;
    }
key_complete Keys.Star cs left begins ends =
    let here : cs ≡ 0x2A ∷ left = word_only 0x2A cs left begins in record {
      is = cond-true (is_at 0x2A cs) _ _ (ap (is_at 0x2A) here) ∙ placed_by Keys.Star (one_at 0x2A cs) left (ap (one_at 0x2A) here ∙ one_next 0x2A left);
      at = ap after_space here ∙ at_itself 0x2A left refl ∙ sym here;
      no_brace = ap (is_at 0x7B) here;
      no_dollar = ap (is_at 0x24) here;
      some = ap (is_next (λ c. true)) here;
    }

-- no character of a name is next
abbrev EndsName : List ℕ → Type 0
EndsName cs = is_next is_name_char cs ≡ false

pub keys_shorten : Shortens begins_key spaced_key_at
keys_shorten cs node left some finds =
    shorter (SpellsSpacedKey node) cs left (some_space_is_longer (SpellsKey node))
    (with_some_space (SpellsKey node) cs left ((and_parts (has_space cs) _ some).0) (key_sound (after_space cs) node left finds))

spaced_key_complete : (node : Key) (cs left : List ℕ) → Begins (SpellsSpacedKey node) cs left → EndsName left → (begins_key cs ≡ true) × (spaced_key_at cs ≡ Some (node, left))
spaced_key_complete node cs left begins ends =
    let space = some_space_first (SpellsKey node) cs left begins in
    let key = key_complete node space.1.middle left space.1.begins ends in
    let at : after_space cs ≡ space.1.middle = space.1.same ∙ key.at in
    (and_from (has_space cs) _ space.0 (ap (λ cs. not (is_at 0x7B cs)) at ∙ ap not key.no_brace), ap key_at at ∙ key.is)

spaced_key_ends_name : (node : Key) (cs left : List ℕ) → Begins (SpellsSpacedKey node) cs left → EndsName cs
spaced_key_ends_name node cs left begins = (stops_spaced cs (some_space_first (SpellsKey node) cs left begins).0).no_name

-- what is found of keys
record AreKeys (nodes : List Key) (cs left : List ℕ) : Type 0 where
  is : keys_at cs ≡ Some (nodes, left)
  at : after_space cs ≡ cs
  no_dollar : is_at 0x24 cs ≡ false
  some : is_next (λ c. true) cs ≡ true

keys_complete : (nodes : List Key) (cs left : List ℕ) → Begins (SpellsKeys nodes) cs left → EndsName left → begins_key left ≡ false → AreKeys nodes cs left
unfolding keys_at has_space further_keys_at
keys_complete [] cs left begins ends stop = absurd begins.is
keys_complete (node ∷ nodes) cs left begins ends stop =
    let parts = parted (SpellsKey node) (Each SpellsSpacedKey nodes) cs left (record { taken = begins.taken; whole = begins.whole; is = begins.is }) in
    let key = key_complete node cs parts.between parts.first (each_follows SpellsSpacedKey EndsName spaced_key_ends_name nodes parts.between left parts.second ends) in record {
      is =
          followed_by (key_at cs) (λ key left. made (onto key) (further_keys_at left)) node parts.between key.is
          ∙ made_by (onto node) (further_keys_at parts.between) nodes left
          (many_complete SpellsSpacedKey begins_key spaced_key_at EndsName refl keys_shorten spaced_key_ends_name spaced_key_complete nodes parts.between left parts.second ends stop);
      at = key.at;
      no_dollar = key.no_dollar;
      some = key.some;
    }

-- what is found of a variant
record IsVariant (node : Variant) (cs left : List ℕ) : Type 0 where
  is : variant_at cs ≡ Some (node, left)
  at : after_space cs ≡ cs
  no_dollar : is_at 0x24 cs ≡ false
  some : is_next (λ c. true) cs ≡ true

and_fails : (a b : Bool) → b ≡ false → (a && b) ≡ false
and_fails true b fails = fails
and_fails false b fails = refl

variant_complete : (node : Variant) (cs left : List ℕ) → Begins (SpellsVariant node) cs left → IsVariant node cs left
unfolding variant_at
variant_complete node cs left begins =
    let parts = parted (SpellsKeys node.keys) (O ⋅ SpellsQuotedPattern node.pattern) cs left begins in
    let space = space_first (SpellsQuotedPattern node.pattern) parts.between left parts.second in
    let brace = quoted_here node.pattern space.middle left space.begins in
    let at : after_space parts.between ≡ space.middle = space.same ∙ ap after_space brace.1 ∙ at_itself 0x7B (0x7B ∷ brace.0) refl ∙ sym brace.1 in
    let stops = stops_before parts.between 0x7B (0x7B ∷ brace.0) (at ∙ brace.1) left_brace_is_no_name_char refl in
    let keys = keys_complete node.keys cs parts.between parts.first stops.no_name (and_fails (has_space parts.between) _ (ap (λ cs. not (is_at 0x7B cs)) (at ∙ brace.1))) in record {
      is =
          followed_by (keys_at cs) (λ keys left. made (variant_node keys) (quoted_pattern_at (after_space left))) node.keys parts.between keys.is
          ∙ made_by (variant_node node.keys) (quoted_pattern_at (after_space parts.between)) node.pattern left (ap quoted_pattern_at at ∙ quoted_pattern_complete node.pattern space.middle left space.begins);
      at = keys.at;
      no_dollar = keys.no_dollar;
      some = keys.some;
    }

variant_is_longer : (node : Variant) (text : List ℕ) → SpellsFurtherVariant node text → 0 < length text
variant_is_longer node text spelled =
    let back = longer_by (is_next (λ c. true)) spelled.back refl (variant_complete node spelled.back [] (begins_whole (SpellsVariant node) spelled.back spelled.second)).some in
    omega (arith, back, ap length spelled.whole, length-append spelled.front spelled.back)

pub variants_shorten : Shortens begins_variant spaced_variant_at
variants_shorten cs node left some finds =
    shorter (SpellsFurtherVariant node) cs left (variant_is_longer node) (with_space (SpellsVariant node) cs left (variant_sound (after_space cs) node left finds))

further_variant_complete : (node : Variant) (cs left : List ℕ) → Begins (SpellsFurtherVariant node) cs left → Unit {0} → (begins_variant cs ≡ true) × (spaced_variant_at cs ≡ Some (node, left))
further_variant_complete node cs left begins u =
    let space = space_first (SpellsVariant node) cs left begins in
    let variant = variant_complete node space.middle left space.begins in
    let at : after_space cs ≡ space.middle = space.same ∙ variant.at in
    (ap (is_next (λ c. true)) at ∙ variant.some, ap variant_at at ∙ variant.is)

-- what is found of variants
record AreVariants (nodes : List Variant) (cs left : List ℕ) : Type 0 where
  is : variants_at cs ≡ Some (nodes, left)
  at : after_space cs ≡ cs
  no_dollar : is_at 0x24 cs ≡ false

variants_complete : (nodes : List Variant) (cs left : List ℕ) → Begins (SpellsVariants nodes) cs left → after_space left ≡ [] → AreVariants nodes cs left
unfolding variants_at after_space further_variants_at
variants_complete [] cs left begins ends = absurd begins.is
variants_complete (node ∷ nodes) cs left begins ends =
    let parts = parted (SpellsVariant node) (Each SpellsFurtherVariant nodes) cs left (record { taken = begins.taken; whole = begins.whole; is = begins.is }) in
    let variant = variant_complete node cs parts.between parts.first in record {
      is =
          followed_by (variant_at cs) (λ variant left. made (onto variant) (further_variants_at left)) node parts.between variant.is
          ∙ made_by (onto node) (further_variants_at parts.between) nodes left
          (many_complete SpellsFurtherVariant begins_variant spaced_variant_at (λ cs. Unit {0}) refl variants_shorten (λ node cs left is. tt) further_variant_complete nodes parts.between left parts.second tt
          (ap (is_next (λ c. true)) ends));
      at = variant.at;
      no_dollar = variant.no_dollar;
    }

pub selectors_shorten : Shortens (is_spaced (λ c. c == 0x24)) spaced_variable_at
selectors_shorten cs node left some finds =
    shorter (SpellsSelector node) cs left (some_space_is_longer (SpellsVariable node))
    (spaced (λ c. c == 0x24) (SpellsVariable node) cs left some (variable_sound (after_space cs) node left finds))

selectors_complete : (nodes : List Name) (cs left place : List ℕ) → Begins (Each SpellsSelector nodes) cs left → IsPast cs place → Stops left → is_spaced (λ c. c == 0x24) left ≡ false →
    Reaches (selectors_at place) nodes left
unfolding selectors_at has_space
selectors_complete [] cs left place begins past stops ends =
    let same : cs ≡ left = begins.whole ∙ ap (λ cs. cs ++ left) begins.is in
    let past_left : IsPast left place = subst (λ (cs : List ℕ). IsPast cs place) same past in record {
      place = place;
      past = past_left;
      is = many_stop (is_spaced (λ c. c == 0x24)) spaced_variable_at place (past_spaced (λ c. c == 0x24) left place past_left ∙ ends);
    }
selectors_complete (node ∷ nodes) cs left place begins past stops ends =
    let parts = parted (SpellsSelector node) (Each SpellsSelector nodes) cs left begins in
    let space = some_space_first (SpellsVariable node) cs parts.between parts.first in
    let here = variable_here node space.1.middle parts.between space.1.begins in
    let variable = variable_complete node space.1.middle parts.between space.1.begins (each_stops SpellsVariable nodes parts.between left parts.second stops) in
    let at : after_space place ≡ space.1.middle = past_space cs place past ∙ space.1.same ∙ ap after_space here.1 ∙ at_itself 0x24 here.0 refl ∙ sym here.1 in
    let rest = selectors_complete nodes parts.between left variable.place parts.second variable.past stops ends in record {
      place = rest.place;
      past = rest.past;
      is =
          many_some (is_spaced (λ c. c == 0x24)) spaced_variable_at refl selectors_shorten place node variable.place
          (and_from (has_space place) (is_next (λ c. c == 0x24) (after_space place)) (past_some cs place past ∙ space.0) (ap (is_next (λ c. c == 0x24)) (at ∙ here.1)))
          (ap variable_at at ∙ variable.is)
          ∙ made_by (onto node) (selectors_at variable.place) nodes rest.place rest.is;
    }

-- what is found of a body
pub record IsBody (body : Body) (cs left : List ℕ) : Type 0 where
  pub is : body_at cs ≡ Some (body, left)
  pub at : after_space cs ≡ cs
  pub no_declaration : begins_declaration cs ≡ false

matcher_complete : (selectors : List Name) (nodes : List Variant) (cs left : List ℕ) → Begins (SpellsMatcher selectors nodes) cs left → after_space left ≡ [] → IsBody (match_node selectors nodes) cs left
unfolding body_at matcher_at
matcher_complete [] nodes cs left begins ends = absurd (begins.is.second.first)
matcher_complete (name ∷ names) nodes cs left begins ends =
    let word = word_behind (codes ".match") (EachOfSome SpellsSelector (name ∷ names) ⋅ S ⋅ SpellsVariants nodes) cs left begins in
    let parts = parted (EachOfSome SpellsSelector (name ∷ names)) (S ⋅ SpellsVariants nodes) word.0 left word.2 in
    let space = some_space_first (SpellsVariants nodes) parts.between left parts.second in
    let variants = variants_complete nodes space.1.middle left space.1.begins ends in
    let at : after_space parts.between ≡ space.1.middle = space.1.same ∙ variants.at in
    let selectors = selectors_complete (name ∷ names) word.0 parts.between word.0 (record { taken = parts.first.taken; whole = parts.first.whole; is = parts.first.is }) (inl refl) (stops_spaced parts.between space.0)
    (and_fails (has_space parts.between) _ (ap (is_next (λ c. c == 0x24)) at ∙ variants.no_dollar)) in record {
      is =
          cond-false (is_at 0x7B cs) _ _ (ap (is_at 0x7B) word.1)
          ∙ behind_by (word_at (codes ".match") cs) matcher_at word.0 (ap (word_at (codes ".match")) word.1 ∙ word_next (codes ".match") word.0)
          ∙ followed_by (selectors_at word.0) match_at (name ∷ names) selectors.place selectors.is
          ∙ cond-true (has_space selectors.place) _ _ (past_some parts.between selectors.place selectors.past ∙ space.0)
          ∙ made_by (match_node (name ∷ names)) (variants_at (after_space selectors.place)) nodes left (ap variants_at (past_space parts.between selectors.place selectors.past ∙ at) ∙ variants.is);
      at = ap after_space word.1 ∙ at_itself 0x2E (codes "match" ++ word.0) refl ∙ sym word.1;
      no_declaration = ap begins_declaration word.1;
    }

body_complete : (body : Body) (cs left : List ℕ) → Begins (SpellsComplexBody body) cs left → after_space left ≡ [] → IsBody body cs left
unfolding body_at
body_complete (Bodies.Pattern pieces) cs left begins ends =
    let here = quoted_here pieces cs left begins in record {
      is = cond-true (is_at 0x7B cs) _ _ (ap (is_at 0x7B) here.1) ∙ made_by Bodies.Pattern (quoted_pattern_at cs) pieces left (quoted_pattern_complete pieces cs left begins);
      at = ap after_space here.1 ∙ at_itself 0x7B (0x7B ∷ here.0) refl ∙ sym here.1;
      no_declaration = ap begins_declaration here.1;
    }
body_complete (Bodies.Match selectors variants) cs left begins ends = matcher_complete selectors variants cs left begins ends

pub complex_complete : (message : Message) (cs : List ℕ) → SpellsComplexMessage message cs → complex_at cs ≡ Some message
unfolding complex_at after_space
complex_complete message cs spelled =
    let space = space_first (Each SpellsDeclarationAndSpace message.declarations ⋅ SpellsComplexBody message.body ⋅ O) cs [] (begins_whole (SpellsComplexMessage message) cs spelled) in
    let first = parted (Each SpellsDeclarationAndSpace message.declarations) (SpellsComplexBody message.body ⋅ O) space.middle [] space.begins in
    let second = parted (SpellsComplexBody message.body) O first.between [] first.second in
    let ends : after_space second.between ≡ [] = o_passes second.between [] second.second in
    let body = body_complete message.body first.between second.between second.first ends in
    let at : after_space cs ≡ space.middle = space.same ∙ each_follows SpellsDeclarationAndSpace IsAtItself declaration_at_itself message.declarations space.middle first.between first.first body.at in
    ap whole
    (followed_by (declarations_at (after_space cs)) (λ declarations left. followed (body_at left) (λ body left. Some (message_node declarations body, after_space left))) message.declarations first.between
    (ap declarations_at at ∙ declarations_complete message.declarations space.middle first.between first.first body.at body.no_declaration)
    ∙ followed_by (body_at first.between) (λ body left. Some (message_node message.declarations body, after_space left)) message.body second.between body.is
    ∙ ap (λ left. Some (message, left)) ends)
