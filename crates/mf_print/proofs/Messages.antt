-- The canonical source of a message spells it.
use Rattle.std.proofs.Common.{◌≡◌, ℕ, List, [], ◌∷◌, ◌++◌, codes, refl, ap, sym, ◌∙◌, subst, inl, inr, ◌⊎◌}
use Rattle.std.proofs.lemmas.Bool.{cases_Bool, cond-true, cond-false}
use Rattle.std.proofs.lemmas.List.{append-nil}
use Rattle.std.specs.List.{flat_map, AllByRecursion}
use Rattle.std.specs.Prelude.{Option}
use Rattle.mf_text.specs.Languages.{Language, Word, ◌⋅◌, Each}
use Rattle.mf_text.specs.Grammar.{O, S}
use Rattle.mf_tree.specs.declared.name.Name.{Name}
use Rattle.mf_tree.specs.declared.expression.Operand.{Operand}
use Rattle.mf_tree.specs.declared.expression.Call.{Call}
use Rattle.mf_tree.specs.declared.expression.Attribute.{Attribute}
use Rattle.mf_tree.specs.declared.message.Key.{Key}
use Rattle.mf_tree.specs.declared.message.Variant.{Variant}
use Rattle.mf_tree.specs.declared.message.Declaration.{Declaration}
use Rattle.mf_tree.specs.declared.message.Body.{Body}
use Rattle.mf_tree.specs.declared.message.Message.{Message}
use Rattle.mf_tree.specs.declared.expression.Operand.TheVariants as Operands
use Rattle.mf_tree.specs.declared.message.Key.TheVariants as Keys
use Rattle.mf_tree.specs.declared.message.Declaration.TheVariants as Declarations
use Rattle.mf_tree.specs.declared.message.Body.TheVariants as Bodies
use Rattle.mf_tree.specs.Nodes.{IfThere, OfSome, IsName, IsAttribute, IsCall, IsInputOf, IsDeclaration, IsKey, IsVariant, IsBody, IsMessage}
use Rattle.mf_tree.specs.Grammar.{EachOfSome, SpellsVariable, SpellsExpression, SpellsVariableExpression, SpellsInputOf, SpellsDeclaration, SpellsDeclarationAndSpace, SpellsKey, SpellsSpacedKey, SpellsKeys, SpellsVariant, SpellsFurtherVariant, SpellsVariants, SpellsSelector, SpellsMatcher, SpellsComplexBody, SpellsComplexMessage, SpellsQuotedPattern, SpellsSimpleMessage, SpellsSimpleBody, SpellsMessage}
use Rattle.mf_tree.specs.Canonical.{variable_source, expression_of_source, expression_source, quoted_pattern_source, pattern_source, must_be_quoted, declaration_source, declarations_source, selector_source, key_source, further_key_source, keys_source, variant_source, matcher_source, complex_body_source, body_source, message_of_source, canonical}
use Rattle.mf_print.proofs.Escapes.{literal}
use Rattle.mf_print.proofs.Spelling.{both, unspaced, spaced, three, behind_word, each, variable, variable_expression, expression}
use Rattle.mf_print.proofs.Patterns.{quoted, simple}

-- o, which is one character
one_before : (c : ℕ) (Rule : Language) (text : List ℕ) → O (c ∷ []) → Rule text → (O ⋅ Rule) (c ∷ text)
one_before c Rule text is spelled = both O Rule (c ∷ []) text is spelled

input_of : (node : Name) (operand : Operand) (call : Option Call) (nodes : List Attribute) → IsName node → IsInputOf node operand → IfThere IsCall call → AllByRecursion IsAttribute nodes →
    SpellsInputOf node operand call nodes (codes ".input " ++ expression_of_source operand call nodes)
input_of node (Operands.Variable operand) call nodes is same calls each = (
  same,
  behind_word (codes ".input") (O ⋅ SpellsVariableExpression operand call nodes) (codes " " ++ expression_of_source (Operands.Variable operand) call nodes)
      (one_before 0x20 (SpellsVariableExpression operand call nodes) (expression_of_source (Operands.Variable operand) call nodes) (refl, tt)
      (variable_expression operand call nodes (subst IsName (sym same) is) calls each)),
)
input_of node (Operands.Literal value) call nodes is same calls each = absurd same
input_of node Operands.Absent call nodes is same calls each = absurd same

-- o "=" o, with a space on each side
spaced_equals : (Rule : Language) (text : List ℕ) → Rule text → (O ⋅ Word (codes "=") ⋅ O ⋅ Rule) (codes " = " ++ text)
spaced_equals Rule text spelled =
    one_before 0x20 (Word (codes "=") ⋅ O ⋅ Rule) (codes "= " ++ text) (refl, tt) (behind_word (codes "=") (O ⋅ Rule) (codes " " ++ text) (one_before 0x20 Rule text (refl, tt) spelled))

declaration : (node : Declaration) → IsDeclaration node → SpellsDeclarationAndSpace node (declaration_source node)
declaration (Declarations.Input name value) is =
    both (SpellsDeclaration (Declarations.Input name value)) O (codes ".input " ++ expression_source value) (codes "\n") (input_of name value.operand value.function value.attributes is.0 is.1 is.2.1 is.2.2) (refl, tt)
declaration (Declarations.Local name value) is =
    let x = variable_source name in
    let y = expression_source value in
    let Rest = O ⋅ Word (codes "=") ⋅ O ⋅ SpellsExpression value in
    both (SpellsDeclaration (Declarations.Local name value)) O (codes ".local " ++ x ++ codes " = " ++ y) (codes "\n")
    (behind_word (codes ".local") (S ⋅ SpellsVariable name ⋅ Rest) (codes " " ++ x ++ codes " = " ++ y)
    (spaced (SpellsVariable name ⋅ Rest) (x ++ codes " = " ++ y)
    (subst (SpellsVariable name ⋅ Rest) (sym (three x (codes " = ") y))
    (both (SpellsVariable name) Rest x (codes " = " ++ y) (variable name is.0) (spaced_equals (SpellsExpression value) y (expression value is.1))))))
    (refl, tt)

key : (node : Key) → IsKey node → SpellsKey node (key_source node)
key (Keys.Literal value) is = literal value is
key Keys.Star is = refl

spaced_key : (node : Key) → IsKey node → SpellsSpacedKey node (further_key_source node)
spaced_key node is = spaced (SpellsKey node) (key_source node) (key node is)

keys : (nodes : List Key) → OfSome IsKey nodes → SpellsKeys nodes (keys_source nodes)
keys [] is = absurd is
keys (node ∷ nodes) is = both (SpellsKey node) (Each SpellsSpacedKey nodes) (key_source node) (flat_map further_key_source nodes) (key node is.0) (each SpellsSpacedKey IsKey further_key_source spaced_key nodes is.1)

-- a variant without the line feed before it
abbrev bare_variant_source : Variant → List ℕ
bare_variant_source node = keys_source node.keys ++ codes " " ++ quoted_pattern_source node.pattern

variant : (node : Variant) → IsVariant node → SpellsVariant node (bare_variant_source node)
variant node is =
    let k = keys_source node.keys in
    let p = quoted_pattern_source node.pattern in
    subst (SpellsVariant node) (sym (three k (codes " ") p))
    (both (SpellsKeys node.keys) (O ⋅ SpellsQuotedPattern node.pattern) k (codes " " ++ p) (keys node.keys is.0) (one_before 0x20 (SpellsQuotedPattern node.pattern) p (refl, tt) (quoted node.pattern is.1)))

further_variant : (node : Variant) → IsVariant node → SpellsFurtherVariant node (variant_source node)
further_variant node is = one_before 0xA (SpellsVariant node) (bare_variant_source node) (refl, tt) (variant node is)

line_feed : S (0xA ∷ [])
line_feed = record { front = []; back = 0xA ∷ []; whole = refl; first = tt; second = record { front = 0xA ∷ []; back = []; whole = refl; first = (0xA, refl, refl); second = tt } }

-- the first variant behind its line feed, and the others
variants : (nodes : List Variant) → OfSome IsVariant nodes → (S ⋅ SpellsVariants nodes) (flat_map variant_source nodes)
variants [] is = absurd is
variants (node ∷ nodes) is =
    both S (SpellsVariants (node ∷ nodes)) (0xA ∷ []) (bare_variant_source node ++ flat_map variant_source nodes) line_feed
    (both (SpellsVariant node) (Each SpellsFurtherVariant nodes) (bare_variant_source node) (flat_map variant_source nodes) (variant node is.0) (each SpellsFurtherVariant IsVariant variant_source further_variant nodes is.1))

selector : (node : Name) → IsName node → SpellsSelector node (selector_source node)
selector node is = spaced (SpellsVariable node) (variable_source node) (variable node is)

selectors : (nodes : List Name) → OfSome IsName nodes → EachOfSome SpellsSelector nodes (flat_map selector_source nodes)
selectors [] is = absurd is
selectors (node ∷ nodes) is = both (SpellsSelector node) (Each SpellsSelector nodes) (selector_source node) (flat_map selector_source nodes) (selector node is.0) (each SpellsSelector IsName selector_source selector nodes is.1)

matcher : (names : List Name) (nodes : List Variant) → OfSome IsName names → OfSome IsVariant nodes → SpellsMatcher names nodes (matcher_source names nodes)
matcher names nodes is are =
    behind_word (codes ".match") (EachOfSome SpellsSelector names ⋅ S ⋅ SpellsVariants nodes) (flat_map selector_source names ++ flat_map variant_source nodes)
    (both (EachOfSome SpellsSelector names) (S ⋅ SpellsVariants nodes) (flat_map selector_source names) (flat_map variant_source nodes) (selectors names is) (variants nodes are))

complex_body : (body : Body) → IsBody body → SpellsComplexBody body (complex_body_source body)
complex_body (Bodies.Pattern pieces) is = quoted pieces is
complex_body (Bodies.Match names nodes) is = matcher names nodes is.0 is.1

complex : (message : Message) → IsMessage message → SpellsComplexMessage message (declarations_source message.declarations ++ complex_body_source message.body)
complex message is =
    let body = complex_body_source message.body in
    let End = SpellsComplexBody message.body ⋅ O in
    unspaced (Each SpellsDeclarationAndSpace message.declarations ⋅ End) (declarations_source message.declarations ++ body)
    (both (Each SpellsDeclarationAndSpace message.declarations) End (declarations_source message.declarations) body
    (each SpellsDeclarationAndSpace IsDeclaration declaration_source declaration message.declarations is.0)
    (record { front = body; back = []; whole = sym (append-nil body); first = complex_body message.body is.1; second = tt }))

-- a body of its own: a simple message, or a complex one without declarations
own_body : (body : Body) (text : List ℕ) → IsBody body → text ≡ body_source body → SpellsSimpleBody body text ⊎ (text ≡ complex_body_source body)
own_body (Bodies.Match names nodes) text is same = inr same
own_body (Bodies.Pattern pieces) text is same =
    elim (cases_Bool (must_be_quoted pieces)) [
      | inl must ↦ inr (same ∙ cond-true (must_be_quoted pieces) (quoted_pattern_source pieces) (pattern_source pieces) must)
      | inr plain ↦ inl (subst (SpellsSimpleMessage pieces) (sym (same ∙ cond-false (must_be_quoted pieces) (quoted_pattern_source pieces) (pattern_source pieces) plain)) (simple pieces is plain))
    ]

of_declarations : (message : Message) (declarations : List Declaration) → message.declarations ≡ declarations → IsMessage message → SpellsMessage message (message_of_source declarations message.body)
of_declarations message [] same is =
    elim (own_body message.body (body_source message.body) is.1 refl) [
      | inl plain ↦ inl (same, plain)
      | inr whole ↦ inr (subst (SpellsComplexMessage message) (ap (λ (nodes : List Declaration). declarations_source nodes ++ complex_body_source message.body) same ∙ sym whole) (complex message is))
    ]
of_declarations message (node ∷ nodes) same is =
    inr (subst (SpellsComplexMessage message) (ap (λ (nodes : List Declaration). declarations_source nodes ++ complex_body_source message.body) same) (complex message is))

pub message : (node : Message) → IsMessage node → SpellsMessage node (canonical node)
message node is = of_declarations node node.declarations refl is
