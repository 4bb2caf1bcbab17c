-- Declarations, keys, variants and matchers, step by step.
use Rattle.std.proofs.Common.{◌≡◌, ◌≢◌, ◌<◌, ℕ, true, false, Some, None, List, [], ◌∷◌, ◌++◌, refl, ap, sym, ◌∙◌, length}
use Rattle.std.proofs.lemmas.Bool.{cond-true}
use Rattle.mf_lex.specs.Computed.{after_space, has_space}
use Rattle.mf_tree.specs.declared.name.Name.{Name}
use Rattle.mf_tree.specs.declared.expression.Expression.{Expression}
use Rattle.mf_tree.specs.declared.pattern.Piece.{Piece}
use Rattle.mf_tree.specs.declared.message.Key.{Key}
use Rattle.mf_tree.specs.declared.message.Variant.{Variant}
use Rattle.mf_tree.specs.declared.message.Declaration.{Declaration}
use Rattle.mf_tree.specs.declared.expression.Operand.TheVariants as Operands
use Rattle.mf_tree.specs.declared.message.Declaration.TheVariants as Declarations
use Rattle.mf_tree.specs.declared.message.Body.TheVariants as BodyKinds
use Rattle.mf_parse.specs.Computed.{Found, made, onto, inside, variable_at, rest_of_expression_at, input_at, begins_declaration, declaration_at, spaced_declaration_at, declarations_at, key_at, further_keys_at, keys_at, variant_node, quoted_pattern_at, variant_at, further_variants_at, variants_at, selectors_at, match_at, matcher_at}
use Rattle.mf_parse.proofs.Finding.{followed_by, followed_none, made_by}
use Rattle.mf_parse.proofs.CompleteMessages.{declarations_shorten}
use Rattle.mf_parse.proofs.Gathers.{Gathered, gathered_step, gathered_stop, gathered_none}
use Rattle.mf_parse.proofs.Chains.{input_found, variant_found}

-- an input declaration, whose operand is a copy of its name
pub input_is : (name operand : Name) (expression : Expression) (cs a b d left : List ℕ) → a ≡ after_space cs → inside a ≡ Some b → variable_at b ≡ Some (name, d) → operand ≡ name → rest_of_expression_at (Operands.Variable operand) d ≡ Some (expression, left) →
    input_at cs ≡ Some (Declarations.Input name expression, left)
input_is name operand expression cs a b d left at brace variable same rest =
    input_found name expression cs b d left (ap inside (sym at) ∙ brace) variable (ap (λ name. rest_of_expression_at (Operands.Variable name) d) (sym same) ∙ rest)

-- declarations, one after another
spaced_declared : (node : Declaration) (cs p left : List ℕ) → declaration_at cs ≡ Some (node, p) → left ≡ after_space p → spaced_declaration_at cs ≡ Some (node, left)
spaced_declared node cs p left finds at = followed_by _ _ node p finds ∙ ap (λ left. Some (node, left)) (sym at)

pub declaration_step : (all : Found (List Declaration)) (x : Declaration) (xs more : List Declaration) (cs p left : List ℕ) → Gathered all xs (declarations_at cs) → begins_declaration cs ≡ true → declaration_at cs ≡ Some (x, p) → left ≡ after_space p → more ≡ xs ++ x ∷ [] →
    Gathered all more (declarations_at left)
unfolding declarations_at
declaration_step all x xs more cs p left gathered some finds at is = gathered_step begins_declaration spaced_declaration_at refl declarations_shorten all x xs more cs left gathered some (spaced_declared x cs p left finds at) is

pub declaration_stop : (all : Found (List Declaration)) (xs : List Declaration) (cs left : List ℕ) → Gathered all xs (declarations_at cs) → begins_declaration cs ≡ false → left ≡ cs → all ≡ Some (xs, left)
unfolding declarations_at
declaration_stop all xs cs left gathered stop same = gathered_stop begins_declaration spaced_declaration_at all xs cs left gathered stop same

pub declaration_none : (all : Found (List Declaration)) (xs : List Declaration) (cs : List ℕ) → Gathered all xs (declarations_at cs) → begins_declaration cs ≡ true → declaration_at cs ≡ None → all ≡ None
unfolding declarations_at
declaration_none all xs cs gathered some none = gathered_none begins_declaration spaced_declaration_at refl all xs cs gathered some (followed_none _ _ none)

pub declaration_shorter : (x : Declaration) (cs p left : List ℕ) → begins_declaration cs ≡ true → declaration_at cs ≡ Some (x, p) → left ≡ after_space p → length left < length cs
declaration_shorter x cs p left some finds at = declarations_shorten cs x left some (spaced_declared x cs p left finds at)

-- the first of some, with those behind it
pub first_gathered : {X : Type 0} (all rest : Found (List X)) (x : X) (xs start : List X) → all ≡ made (onto x) rest → start ≡ [] → xs ≡ start ++ x ∷ [] → Gathered all xs rest
first_gathered all None x xs start is empty one = is
first_gathered all (Some (ys, left)) x xs start is empty one = is ∙ ap (λ xs. Some (xs ++ ys, left)) (sym (one ∙ ap (λ start. start ++ x ∷ []) empty))

pub first_key : (key : Key) (cs p : List ℕ) → key_at cs ≡ Some (key, p) → keys_at cs ≡ made (onto key) (further_keys_at p)
unfolding keys_at
first_key key cs p finds = followed_by _ _ key p finds

pub first_variant : (variant : Variant) (cs p : List ℕ) → variant_at cs ≡ Some (variant, p) → variants_at cs ≡ made (onto variant) (further_variants_at p)
unfolding variants_at
first_variant variant cs p finds = followed_by _ _ variant p finds

-- a variant, whose space was passed
pub variant_is : (keys : List Key) (pattern : List Piece) (cs p a left : List ℕ) → keys_at cs ≡ Some (keys, p) → a ≡ after_space p → quoted_pattern_at a ≡ Some (pattern, left) → variant_at cs ≡ Some (variant_node keys pattern, left)
variant_is keys pattern cs p a left first at second = variant_found keys pattern cs p left first (ap quoted_pattern_at (sym at) ∙ second)

-- selectors and variants
match_is : (selectors : List Name) (variants : List Variant) (cs a left : List ℕ) → selectors ≢ [] → has_space cs ≡ true → a ≡ after_space cs → variants_at a ≡ Some (variants, left) → match_at selectors cs ≡ Some (BodyKinds.Match selectors variants, left)
match_is [] variants cs a left some space at finds = absurd (some refl)
match_is (name ∷ names) variants cs a left some space at finds = cond-true (has_space cs) _ _ space ∙ made_by _ _ variants left (ap variants_at (sym at) ∙ finds)

pub matcher_found : (selectors : List Name) (variants : List Variant) (cs p a left : List ℕ) → selectors_at cs ≡ Some (selectors, p) → selectors ≢ [] → has_space p ≡ true → a ≡ after_space p → variants_at a ≡ Some (variants, left) → matcher_at cs ≡ Some (BodyKinds.Match selectors variants, left)
unfolding matcher_at
matcher_found selectors variants cs p a left first some space at finds = followed_by _ _ selectors p first ∙ match_is selectors variants p a left some space at finds
