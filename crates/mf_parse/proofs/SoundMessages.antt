-- What is found is spelled: of patterns, declarations, matchers and messages.
use Rattle.std.proofs.Common.{◌≡◌, ℕ, Bool, true, false, ◌==◌, ◌&&◌, ◌||◌, not, Option, Some, None, List, [], ◌∷◌, ◌++◌, map, refl, ap, sym, ◌∙◌, subst, inl, inr, arith}
use Rattle.std.proofs.lemmas.Bool.{cases_Bool, cond-true, cond-false, and_parts, and_from, eqb-true, eqb-false, leb-true, false≢true}
use Rattle.std.proofs.lemmas.List.{append-nil}
use Rattle.std.specs.Prelude.{codes, nat_le, if◌then◌else◌}
use Rattle.mf_text.specs.Characters.{is_in, is_ws, is_text, is_simple_start, is_escapable}
use Rattle.mf_text.specs.Languages.{Language, Word, ◌⋅◌, Maybe, Each, Begins}
use Rattle.mf_text.specs.Grammar.{O, S}
use Rattle.mf_text.proofs.Classes.{ws_is_space}
use Rattle.mf_lex.specs.Computed.{one_at, after_space, has_space, escaped, literal_at}
use Rattle.mf_lex.proofs.Begins.{joined}
use Rattle.mf_lex.proofs.Literals.{literal_begins}
use Rattle.mf_tree.specs.Grammar
use Rattle.mf_tree.specs.Grammar.{Item, character, placeholder, pattern_of, SpellsItem, SpellsItems, SpellsSimpleStart, SpellsFromStart, SpellsSpace, SpellsSimpleMessage, SpellsQuotedPattern, SpellsVariable, SpellsVariableExpression, SpellsExpression, SpellsDeclaration, SpellsDeclarationAndSpace, SpellsKey, SpellsSpacedKey, SpellsKeys, SpellsVariant, SpellsFurtherVariant, SpellsVariants, SpellsSelector, SpellsMatcher, SpellsComplexBody, SpellsComplexMessage, SpellsMessage, EachOfSome}
use Rattle.mf_tree.specs.declared.name.Name.{Name}
use Rattle.mf_tree.specs.declared.pattern.Piece.{Piece}
use Rattle.mf_tree.specs.declared.message.Key.{Key}
use Rattle.mf_tree.specs.declared.message.Variant.{Variant}
use Rattle.mf_tree.specs.declared.message.Declaration.{Declaration}
use Rattle.mf_tree.specs.declared.message.Body.{Body}
use Rattle.mf_tree.specs.declared.message.Message.{Message}
use Rattle.mf_tree.specs.declared.expression.Operand.TheVariants as Operands
use Rattle.mf_tree.specs.declared.message.Key.TheVariants as Keys
use Rattle.mf_tree.specs.declared.message.Body.TheVariants as Bodies
use Rattle.mf_parse.specs.Computed.{Found, made, followed, behind, placed, onto, many, word_at, is_word_at, is_at, is_spaced, variable_at, rest_of_expression_at, behind_equals, inside, expression_at, placeholder_at, item_at, goes_on, pattern_at, quoted_pattern_at, input_node, input_at, local_node, local_rest, local_at, begins_declaration, declaration_at, spaced_declaration_at, declarations_at, key_at, begins_key, spaced_key_at, further_keys_at, keys_at, variant_node, variant_at, begins_variant, spaced_variant_at, further_variants_at, variants_at, spaced_variable_at, selectors_at, match_node, match_at, matcher_at, body_at, message_node, whole, complex_at, begins_simply, simple_at, or_else, message_of}
use Rattle.mf_parse.proofs.Finding.{followed_parts, behind_parts, made_parts, placed_parts, many_begins}
use Rattle.mf_parse.proofs.Heads.{with_space, with_some_space, spaced, space_alone, with_equals, with_brace, character_alone, with_word, word_alone}
use Rattle.mf_parse.proofs.Sound.{chosen, variable_sound, rest_sound, expression_sound, placeholder_sound}

escaped_parts : (cs : List ℕ) (c : ℕ) (left : List ℕ) → escaped cs ≡ Some (c, left) → (cs ≡ c ∷ left) × (is_escapable c ≡ true)
escaped_parts [] c left finds = absurd (cc)
escaped_parts (d ∷ cs) c left finds =
    chosen (is_escapable d) (Some (d, cs)) None (c, left) ((d ∷ cs ≡ c ∷ left) × (is_escapable c ≡ true)) finds
    (λ is finds.
    let same : ◌≡◌ {A = ℕ × List ℕ} (d, cs) (c, left) = cc in
    (ap (λ (p : ℕ × List ℕ). p.0 ∷ p.1) same, subst (λ (c : ℕ). is_escapable c ≡ true) (ap (λ (p : ℕ × List ℕ). p.0) same) is))
    (λ is finds. absurd (cc))

text_item : (c : ℕ) (cs : List ℕ) (item : Item) (left : List ℕ) → is_text c ≡ true → ◌≡◌ {A = Found Item} (Some (character c, cs)) (Some (item, left)) → Begins (SpellsItem item) (c ∷ cs) left
text_item c cs item left is finds =
    let same : ◌≡◌ {A = Item × List ℕ} (character c, cs) (item, left) = cc in
    subst (λ (p : Item × List ℕ). Begins (SpellsItem p.0) (c ∷ cs) p.1) same (record { taken = c ∷ []; whole = refl; is = inl (refl, is) })

escape_item : (c : ℕ) (cs : List ℕ) (item : Item) (left : List ℕ) → c ≡ 0x5C → made character (escaped cs) ≡ Some (item, left) → Begins (SpellsItem item) (c ∷ cs) left
escape_item c cs item left at finds =
    let parts = made_parts character (escaped cs) item left finds in
    let escape = escaped_parts cs parts.x left parts.finds in
    subst (λ (item : Item). Begins (SpellsItem item) (c ∷ cs) left) parts.is (record {
      taken = 0x5C ∷ parts.x ∷ [];
      whole = ap (λ c. c ∷ cs) at ∙ ap (λ cs. 0x5C ∷ cs) escape.0;
      is = inr (refl, escape.1);
    })

placeholder_item : (cs : List ℕ) (item : Item) (left : List ℕ) → made placeholder (placeholder_at cs) ≡ Some (item, left) → Begins (SpellsItem item) cs left
placeholder_item cs item left finds =
    let parts = made_parts placeholder (placeholder_at cs) item left finds in
    subst (λ (item : Item). Begins (SpellsItem item) cs left) parts.is (placeholder_sound cs parts.x left parts.finds)

pub item_sound : (cs : List ℕ) (item : Item) (left : List ℕ) → item_at cs ≡ Some (item, left) → Begins (SpellsItem item) cs left
item_sound [] item left finds = absurd (cc)
item_sound (c ∷ cs) item left finds =
    chosen (is_text c) (Some (character c, cs)) (if c == 0x5C then made character (escaped cs) else made placeholder (placeholder_at (c ∷ cs))) (item, left) (Begins (SpellsItem item) (c ∷ cs) left) finds
    (λ is finds. text_item c cs item left is finds)
    (λ is finds.
    chosen (c == 0x5C) (made character (escaped cs)) (made placeholder (placeholder_at (c ∷ cs))) (item, left) (Begins (SpellsItem item) (c ∷ cs) left) finds
    (λ is finds. escape_item c cs item left (eqb-true c 0x5C is) finds)
    (λ is finds. placeholder_item (c ∷ cs) item left finds))

pub record Pattern (pieces : List Piece) (cs left : List ℕ) : Type 0 where
  pub items : List Item
  pub begins : Begins (SpellsItems items) cs left
  pub meant : pattern_of items ≡ pieces

pub pattern_sound : (cs : List ℕ) (pieces : List Piece) (left : List ℕ) → pattern_at cs ≡ Some (pieces, left) → Pattern pieces cs left
unfolding pattern_at
pattern_sound cs pieces left finds =
    let parts = made_parts pattern_of (many goes_on item_at cs) pieces left finds in
    record { items = parts.x; begins = many_begins SpellsItem goes_on item_at (λ cs item left some finds. item_sound cs item left finds) cs parts.x left parts.finds; meant = parts.is }

quoted_of : (pieces : List Piece) (items : List Item) (cs left : List ℕ) → pattern_of items ≡ pieces → Begins (Word (codes "{{") ⋅ SpellsItems items ⋅ Word (codes "}}")) cs left → Begins (SpellsQuotedPattern pieces) cs left
quoted_of pieces items cs left meant begins = record { taken = begins.taken; whole = begins.whole; is = record { items = items; meant = sym meant; spelled = begins.is } }

pub quoted_pattern_sound : (cs : List ℕ) (pieces : List Piece) (left : List ℕ) → quoted_pattern_at cs ≡ Some (pieces, left) → Begins (SpellsQuotedPattern pieces) cs left
unfolding quoted_pattern_at
quoted_pattern_sound cs pieces left finds =
    let open_ = behind_parts (word_at (codes "{{") cs) (λ left. followed (pattern_at left) (λ pattern left. placed pattern (word_at (codes "}}") left))) (pieces, left) finds in
    let inner = followed_parts (pattern_at open_.0) (λ pattern left. placed pattern (word_at (codes "}}") left)) (pieces, left) open_.2 in
    let close = placed_parts inner.0.0 pieces (word_at (codes "}}") inner.0.1) left inner.2 in
    let pattern = pattern_sound open_.0 inner.0.0 inner.0.1 inner.1 in
    quoted_of pieces pattern.items cs left (pattern.meant ∙ close.1)
    (with_word (codes "{{") (SpellsItems pattern.items ⋅ Word (codes "}}")) cs open_.0 left open_.1
    (joined (SpellsItems pattern.items) (Word (codes "}}")) open_.0 inner.0.1 left pattern.begins (word_alone (codes "}}") inner.0.1 left close.0)))

input_sound : (cs : List ℕ) (node : Declaration) (left before : List ℕ) → word_at (codes ".input") before ≡ Some cs → input_at cs ≡ Some (node, left) → Begins (SpellsDeclaration node) before left
unfolding input_at
input_sound cs node left before word finds =
    let brace = behind_parts (inside (after_space cs)) (λ left. followed (variable_at left) (λ name left. made (input_node name) (rest_of_expression_at (Operands.Variable name) left))) (node, left) finds in
    let name = followed_parts (variable_at brace.0) (λ name left. made (input_node name) (rest_of_expression_at (Operands.Variable name) left)) (node, left) brace.2 in
    let parts = made_parts (input_node name.0.0) (rest_of_expression_at (Operands.Variable name.0.0) name.0.1) node left name.2 in
    let rest = rest_sound (Operands.Variable name.0.0) name.0.1 parts.x left parts.finds in
    let begins =
    with_word (codes ".input") (O ⋅ SpellsVariableExpression name.0.0 rest.function rest.attributes) before cs left word
    (with_space (SpellsVariableExpression name.0.0 rest.function rest.attributes) cs left
    (with_brace (SpellsVariable name.0.0 ⋅ Maybe Grammar.SpellsSpacedFunction rest.function ⋅ Each Grammar.SpellsSpacedAttribute rest.attributes ⋅ O ⋅ Word (codes "}")) (after_space cs) brace.0 left brace.1
    (joined (SpellsVariable name.0.0) (Maybe Grammar.SpellsSpacedFunction rest.function ⋅ Each Grammar.SpellsSpacedAttribute rest.attributes ⋅ O ⋅ Word (codes "}")) brace.0 name.0.1 left (variable_sound brace.0 name.0.0 name.0.1 name.1) rest.begins))) in
    subst (λ (node : Declaration). Begins (SpellsDeclaration node) before left) (ap (λ expression. input_node name.0.0 expression) rest.is ∙ parts.is)
    (record { taken = begins.taken; whole = begins.whole; is = (refl, begins.is) })

local_sound : (cs : List ℕ) (node : Declaration) (left before : List ℕ) → word_at (codes ".local") before ≡ Some cs → local_at cs ≡ Some (node, left) → Begins (SpellsDeclaration node) before left
unfolding local_at local_rest
local_sound cs node left before word finds =
    chosen (has_space cs) (local_rest (after_space cs)) None (node, left) (Begins (SpellsDeclaration node) before left) finds
    (λ some finds.
    let name = followed_parts (variable_at (after_space cs)) (λ name left. behind (behind_equals left) (λ left. made (local_node name) (expression_at left))) (node, left) finds in
    let sign = behind_parts (behind_equals name.0.1) (λ left. made (local_node name.0.0) (expression_at left)) (node, left) name.2 in
    let parts = made_parts (local_node name.0.0) (expression_at sign.0) node left sign.2 in
    subst (λ (node : Declaration). Begins (SpellsDeclaration node) before left) parts.is
    (with_word (codes ".local") (S ⋅ SpellsVariable name.0.0 ⋅ O ⋅ Word (codes "=") ⋅ O ⋅ SpellsExpression parts.x) before cs left word
    (with_some_space (SpellsVariable name.0.0 ⋅ O ⋅ Word (codes "=") ⋅ O ⋅ SpellsExpression parts.x) cs left some
    (joined (SpellsVariable name.0.0) (O ⋅ Word (codes "=") ⋅ O ⋅ SpellsExpression parts.x) (after_space cs) name.0.1 left (variable_sound (after_space cs) name.0.0 name.0.1 name.1)
    (with_equals (SpellsExpression parts.x) name.0.1 sign.0 left sign.1 (expression_sound sign.0 parts.x left parts.finds))))))
    (λ none finds. absurd (cc))

pub declaration_sound : (cs : List ℕ) (node : Declaration) (left : List ℕ) → declaration_at cs ≡ Some (node, left) → Begins (SpellsDeclaration node) cs left
unfolding declaration_at
declaration_sound cs node left finds =
    chosen (is_word_at (codes ".input") cs) (behind (word_at (codes ".input") cs) input_at) (behind (word_at (codes ".local") cs) local_at) (node, left) (Begins (SpellsDeclaration node) cs left) finds
    (λ is finds.
    let word = behind_parts (word_at (codes ".input") cs) input_at (node, left) finds in
    input_sound word.0 node left cs word.1 word.2)
    (λ is finds.
    let word = behind_parts (word_at (codes ".local") cs) local_at (node, left) finds in
    local_sound word.0 node left cs word.1 word.2)

same_left : {X : Type 0} (x y : X) (cs left : List ℕ) → ◌≡◌ {A = Found X} (Some (x, cs)) (Some (y, left)) → ◌≡◌ {A = X × List ℕ} (x, cs) (y, left)
same_left x y cs left h = cc

pub spaced_declaration_sound : (cs : List ℕ) (node : Declaration) (left : List ℕ) → spaced_declaration_at cs ≡ Some (node, left) → Begins (SpellsDeclarationAndSpace node) cs left
spaced_declaration_sound cs node left finds =
    let parts = followed_parts (declaration_at cs) (λ declaration left. Some (declaration, after_space left)) (node, left) finds in
    subst (λ (p : Declaration × List ℕ). Begins (SpellsDeclarationAndSpace p.0) cs p.1) (same_left parts.0.0 node (after_space parts.0.1) left parts.2)
    (joined (SpellsDeclaration parts.0.0) O cs parts.0.1 (after_space parts.0.1) (declaration_sound cs parts.0.0 parts.0.1 parts.1) (space_alone parts.0.1))

pub declarations_sound : (cs : List ℕ) (nodes : List Declaration) (left : List ℕ) → declarations_at cs ≡ Some (nodes, left) → Begins (Each SpellsDeclarationAndSpace nodes) cs left
unfolding declarations_at
declarations_sound cs nodes left finds =
    many_begins SpellsDeclarationAndSpace begins_declaration spaced_declaration_at (λ cs node left some finds. spaced_declaration_sound cs node left finds) cs nodes left finds

pub key_sound : (cs : List ℕ) (node : Key) (left : List ℕ) → key_at cs ≡ Some (node, left) → Begins (SpellsKey node) cs left
unfolding key_at
key_sound cs node left finds =
    chosen (is_at 0x2A cs) (placed Keys.Star (one_at 0x2A cs)) (made Keys.Literal (literal_at cs)) (node, left) (Begins (SpellsKey node) cs left) finds
    (λ is finds.
    let parts = placed_parts Keys.Star node (one_at 0x2A cs) left finds in
    subst (λ (node : Key). Begins (SpellsKey node) cs left) parts.1 (character_alone 0x2A cs left parts.0))
    (λ is finds.
    let parts = made_parts Keys.Literal (literal_at cs) node left finds in
    subst (λ (node : Key). Begins (SpellsKey node) cs left) parts.is (literal_begins cs parts.x left parts.finds))

-- a rule that asks for one at least
some_of : {X : Type 0} (Rule Further : X → Language) (Whole : List X → Language) → ((x : X) (xs : List X) (text : List ℕ) → (Rule x ⋅ Each Further xs) text → Whole (x ∷ xs) text) →
    (x : X) (xs all : List X) (cs middle left : List ℕ) → onto x xs ≡ all → Begins (Rule x) cs middle → Begins (Each Further xs) middle left → Begins (Whole all) cs left
some_of {X = X} Rule Further Whole made x xs all cs middle left is first rest =
    let begins = joined (Rule x) (Each Further xs) cs middle left first rest in
    subst (λ (all : List X). Begins (Whole all) cs left) is (record { taken = begins.taken; whole = begins.whole; is = made x xs begins.taken begins.is })

keys_sound : (cs : List ℕ) (nodes : List Key) (left : List ℕ) → keys_at cs ≡ Some (nodes, left) → Begins (SpellsKeys nodes) cs left
unfolding keys_at further_keys_at
keys_sound cs nodes left finds =
    let key = followed_parts (key_at cs) (λ key left. made (onto key) (further_keys_at left)) (nodes, left) finds in
    let rest = made_parts (onto key.0.0) (further_keys_at key.0.1) nodes left key.2 in
    some_of SpellsKey SpellsSpacedKey SpellsKeys (λ x xs text is. is) key.0.0 rest.x nodes cs key.0.1 left rest.is (key_sound cs key.0.0 key.0.1 key.1)
    (many_begins SpellsSpacedKey begins_key spaced_key_at
    (λ cs node left some finds. with_some_space (SpellsKey node) cs left ((and_parts (has_space cs) _ some).0) (key_sound (after_space cs) node left finds))
    key.0.1 rest.x left rest.finds)

pub variant_sound : (cs : List ℕ) (node : Variant) (left : List ℕ) → variant_at cs ≡ Some (node, left) → Begins (SpellsVariant node) cs left
unfolding variant_at
variant_sound cs node left finds =
    let keys = followed_parts (keys_at cs) (λ keys left. made (variant_node keys) (quoted_pattern_at (after_space left))) (node, left) finds in
    let parts = made_parts (variant_node keys.0.0) (quoted_pattern_at (after_space keys.0.1)) node left keys.2 in
    subst (λ (node : Variant). Begins (SpellsVariant node) cs left) parts.is
    (joined (SpellsKeys keys.0.0) (O ⋅ SpellsQuotedPattern parts.x) cs keys.0.1 left (keys_sound cs keys.0.0 keys.0.1 keys.1)
    (with_space (SpellsQuotedPattern parts.x) keys.0.1 left (quoted_pattern_sound (after_space keys.0.1) parts.x left parts.finds)))

variants_sound : (cs : List ℕ) (nodes : List Variant) (left : List ℕ) → variants_at cs ≡ Some (nodes, left) → Begins (SpellsVariants nodes) cs left
unfolding variants_at further_variants_at
variants_sound cs nodes left finds =
    let variant = followed_parts (variant_at cs) (λ variant left. made (onto variant) (further_variants_at left)) (nodes, left) finds in
    let rest = made_parts (onto variant.0.0) (further_variants_at variant.0.1) nodes left variant.2 in
    some_of SpellsVariant SpellsFurtherVariant SpellsVariants (λ x xs text is. is) variant.0.0 rest.x nodes cs variant.0.1 left rest.is (variant_sound cs variant.0.0 variant.0.1 variant.1)
    (many_begins SpellsFurtherVariant begins_variant spaced_variant_at
    (λ cs node left some finds. with_space (SpellsVariant node) cs left (variant_sound (after_space cs) node left finds))
    variant.0.1 rest.x left rest.finds)

selectors_sound : (cs : List ℕ) (nodes : List Name) (left : List ℕ) → selectors_at cs ≡ Some (nodes, left) → Begins (Each SpellsSelector nodes) cs left
unfolding selectors_at
selectors_sound cs nodes left finds =
    many_begins SpellsSelector (is_spaced (λ c. c == 0x24)) spaced_variable_at
    (λ cs node left some finds. spaced (λ c. c == 0x24) (SpellsVariable node) cs left some (variable_sound (after_space cs) node left finds))
    cs nodes left finds

match_sound : (selectors : List Name) (cs middle : List ℕ) (body : Body) (left before : List ℕ) → word_at (codes ".match") before ≡ Some cs → Begins (Each SpellsSelector selectors) cs middle →
    match_at selectors middle ≡ Some (body, left) → Begins (SpellsComplexBody body) before left
match_sound [] cs middle body left before word begins finds = absurd (cc)
match_sound (name ∷ names) cs middle body left before word begins finds =
    chosen (has_space middle) (made (match_node (name ∷ names)) (variants_at (after_space middle))) None (body, left) (Begins (SpellsComplexBody body) before left) finds
    (λ some finds.
    let parts = made_parts (match_node (name ∷ names)) (variants_at (after_space middle)) body left finds in
    subst (λ (body : Body). Begins (SpellsComplexBody body) before left) parts.is
    (with_word (codes ".match") (EachOfSome SpellsSelector (name ∷ names) ⋅ S ⋅ SpellsVariants parts.x) before cs left word
    (joined (EachOfSome SpellsSelector (name ∷ names)) (S ⋅ SpellsVariants parts.x) cs middle left (record { taken = begins.taken; whole = begins.whole; is = begins.is })
    (with_some_space (SpellsVariants parts.x) middle left some (variants_sound (after_space middle) parts.x left parts.finds)))))
    (λ none finds. absurd (cc))

body_sound : (cs : List ℕ) (body : Body) (left : List ℕ) → body_at cs ≡ Some (body, left) → Begins (SpellsComplexBody body) cs left
unfolding body_at matcher_at
body_sound cs body left finds =
    chosen (is_at 0x7B cs) (made Bodies.Pattern (quoted_pattern_at cs)) (behind (word_at (codes ".match") cs) matcher_at) (body, left) (Begins (SpellsComplexBody body) cs left) finds
    (λ is finds.
    let parts = made_parts Bodies.Pattern (quoted_pattern_at cs) body left finds in
    subst (λ (body : Body). Begins (SpellsComplexBody body) cs left) parts.is (quoted_pattern_sound cs parts.x left parts.finds))
    (λ is finds.
    let word = behind_parts (word_at (codes ".match") cs) matcher_at (body, left) finds in
    let selectors = followed_parts (selectors_at word.0) match_at (body, left) word.2 in
    match_sound selectors.0.0 word.0 selectors.0.1 body left cs word.1 (selectors_sound word.0 selectors.0.0 selectors.0.1 selectors.1) selectors.2)

pub whole_parts : {X : Type 0} (found : Found X) (x : X) → whole found ≡ Some x → found ≡ Some (x, [])
whole_parts None x h = absurd (cc)
whole_parts (Some (y, [])) x h = cc
whole_parts (Some (y, c ∷ cs)) x h = absurd (cc)

pub all_of : (Rule : Language) (cs : List ℕ) → Begins Rule cs [] → Rule cs
all_of Rule cs begins = subst Rule (sym (begins.whole ∙ append-nil begins.taken)) begins.is

both_false : (a b : Bool) → a ≡ false → b ≡ false → (a || b) ≡ false
both_false a b one other = cc

not_in_row : (c a : ℕ) → (c == a) ≡ false → is_in ((a, a) ∷ []) c ≡ false
not_in_row c a other =
    elim (cases_Bool (nat_le a c && nat_le c a)) [
      | inl within ↦
          let parts = and_parts (nat_le a c) (nat_le c a) within in
          absurd (eqb-false c a other (omega (arith, leb-true a c parts.0, leb-true c a parts.1)))
      | inr outside ↦ both_false (nat_le a c && nat_le c a) false outside refl
    ]

no_stop : (c : ℕ) (back : List ℕ) → is_ws c ≡ false → begins_simply (c ∷ back) ≡ true → (c == 0x2E) ≡ false
no_stop c back other simply =
    elim (cases_Bool (c == 0x2E)) [
      | inl stop ↦ absurd (false≢true (sym (ap not stop) ∙ sym (ap (λ cs. not (is_at 0x2E cs)) (cond-false (is_ws c) _ _ other)) ∙ simply))
      | inr is_other ↦ is_other
    ]

nothing_there : {X : Type 0} (found : Option X) (x : X) (test : Bool) → test ≡ false → (if test then found else None) ≡ Some x → ⊥
nothing_there found x true fails h = false≢true (sym fails)
nothing_there found x false fails h = cc

either : {X : Type 0} (first second : Option X) (x : X) (cs : List ℕ) {Goal : Type 0} → (first ≡ Some x → Goal) → (second ≡ Some x → Goal) → or_else first second ≡ Some x → Goal
either None second x cs one other h = other h
either (Some y) second x cs one other h = one h

pub complex_sound : (cs : List ℕ) (message : Message) → complex_at cs ≡ Some message → SpellsComplexMessage message cs
unfolding complex_at
complex_sound cs message finds =
    let found = followed (declarations_at (after_space cs)) (λ declarations left. followed (body_at left) (λ body left. Some (message_node declarations body, after_space left))) in
    let all = whole_parts found message finds in
    let declarations = followed_parts (declarations_at (after_space cs)) (λ declarations left. followed (body_at left) (λ body left. Some (message_node declarations body, after_space left))) (message, []) all in
    let body = followed_parts (body_at declarations.0.1) (λ body left. Some (message_node declarations.0.0 body, after_space left)) (message, []) declarations.2 in
    let same = same_left (message_node declarations.0.0 body.0.0) message (after_space body.0.1) [] body.2 in
    let begins =
    with_space (Each SpellsDeclarationAndSpace declarations.0.0 ⋅ SpellsComplexBody body.0.0 ⋅ O) cs (after_space body.0.1)
    (joined (Each SpellsDeclarationAndSpace declarations.0.0) (SpellsComplexBody body.0.0 ⋅ O) (after_space cs) declarations.0.1 (after_space body.0.1)
    (declarations_sound (after_space cs) declarations.0.0 declarations.0.1 declarations.1)
    (joined (SpellsComplexBody body.0.0) O declarations.0.1 body.0.1 (after_space body.0.1) (body_sound declarations.0.1 body.0.0 body.0.1 body.1) (space_alone body.0.1))) in
    all_of (SpellsComplexMessage message) cs (subst (λ (p : Message × List ℕ). Begins (SpellsComplexMessage p.0) cs p.1) same begins)

-- the items of a simple message: the space, and what begins behind it
record Simple (items : List Item) (text : List ℕ) : Type 0 where
  space : List ℕ
  others : List Item
  whole : items ≡ map character space ++ others
  spelled : (SpellsSpace space ⋅ SpellsFromStart others) text

begun : (item : Item) (items : List Item) (text front back : List ℕ) → text ≡ front ++ back → SpellsSimpleStart item front → SpellsItems items back → Simple (item ∷ items) text
begun item items text front back is start rest = record {
  space = [];
  others = item ∷ items;
  whole = refl;
  spelled = record { front = []; back = text; whole = refl; first = (refl, tt); second = record { front = front; back = back; whole = is; first = start; second = rest } };
}

one_more : (c : ℕ) (items : List Item) (text back : List ℕ) → text ≡ c ∷ back → is_ws c ≡ true → Simple items back → Simple (character c ∷ items) text
one_more c items text back is white simple = record {
  space = c ∷ simple.space;
  others = simple.others;
  whole = ap (λ items. character c ∷ items) simple.whole;
  spelled = record {
    front = c ∷ simple.spelled.front;
    back = simple.spelled.back;
    whole = is ∙ ap (λ text. c ∷ text) simple.spelled.whole;
    first = (ap (λ text. c ∷ text) simple.spelled.first.0, (ws_is_space c white, simple.spelled.first.1));
    second = simple.spelled.second;
  };
}

starts : (c : ℕ) (back : List ℕ) → is_text c ≡ true → is_ws c ≡ false → begins_simply (c ∷ back) ≡ true → is_simple_start c ≡ true
starts c back text other simply = and_from (is_text c) _ text (ap not (both_false (is_ws c) (is_in ((0x2E, 0x2E) ∷ []) c) other (not_in_row c 0x2E (no_stop c back other simply))))

simple_of : (items : List Item) (text : List ℕ) → SpellsItems items text → begins_simply text ≡ true → Simple items text
simple_of [] text spelled simply = record {
  space = [];
  others = [];
  whole = refl;
  spelled = record { front = []; back = []; whole = spelled; first = (refl, tt); second = refl };
}
simple_of (placeholder piece ∷ items) text spelled simply = begun (placeholder piece) items text spelled.front spelled.back spelled.whole spelled.first spelled.second
simple_of (character c ∷ items) text spelled simply =
    elim spelled.first [
      | inl plain ↦
          let is : text ≡ c ∷ spelled.back = spelled.whole ∙ ap (λ front. front ++ spelled.back) plain.0 in
          let simply : begins_simply (c ∷ spelled.back) ≡ true = sym (ap begins_simply is) ∙ simply in
          elim (cases_Bool (is_ws c)) [
            | inl white ↦
                one_more c items text spelled.back is white
                (simple_of items spelled.back spelled.second (sym (ap (λ cs. not (is_at 0x2E cs)) (cond-true (is_ws c) _ _ white)) ∙ simply))
            | inr other ↦ begun (character c) items text (c ∷ []) spelled.back is (inl (refl, starts c spelled.back plain.1 other simply)) spelled.second
          ]
      | inr escape ↦ begun (character c) items text spelled.front spelled.back spelled.whole (inr escape) spelled.second
    ]

pub simple_sound : (cs : List ℕ) (message : Message) → simple_at cs ≡ Some message → SpellsMessage message cs
unfolding simple_at
simple_sound cs message finds =
    elim (cases_Bool (begins_simply cs)) [
      | inl simply ↦
          let all = whole_parts (made (λ pattern. message_node [] (Bodies.Pattern pattern)) (pattern_at cs)) message (sym (cond-true (begins_simply cs) _ _ simply) ∙ finds) in
          let parts = made_parts (λ pattern. message_node [] (Bodies.Pattern pattern)) (pattern_at cs) message [] all in
          let pattern = pattern_sound cs parts.x [] parts.finds in
          let simple = simple_of pattern.items cs (all_of (SpellsItems pattern.items) cs pattern.begins) simply in
          subst (λ (message : Message). SpellsMessage message cs) parts.is
          (inl (refl, record { space = simple.space; items = simple.others; meant = sym pattern.meant ∙ ap pattern_of simple.whole; spelled = simple.spelled }))
      | inr other ↦ absurd (nothing_there (whole (made (λ pattern. message_node [] (Bodies.Pattern pattern)) (pattern_at cs))) message (begins_simply cs) other finds)
    ]

-- the message that is found is spelled
pub message_sound : (cs : List ℕ) (message : Message) → message_of cs ≡ Some message → SpellsMessage message cs
unfolding message_of
message_sound cs message finds = either (complex_at cs) (simple_at cs) message cs {Goal = SpellsMessage message cs} (λ finds. inr (complex_sound cs message finds)) (simple_sound cs message) finds
