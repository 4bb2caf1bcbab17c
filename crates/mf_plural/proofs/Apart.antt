-- In a rule no value stands beside a value, and no `..` beside `..`.
use Rattle.std.proofs.Common.{◌≡◌, ◌∙◌, ℕ, Bool, true, false, cond, List, [], ◌∷◌, ◌++◌, Option, Some, None, refl, ap, sym, subst}
use Rattle.std.specs.List.{onto_first}
use Rattle.std.specs.Prelude.{◌&&◌, ◌||◌}
use Rattle.std.proofs.lemmas.Bool.{false≢true}
use Rattle.mf_plural.specs.Grammar.{between, separates, Each, IsRule, sign, SpellsCondition, SpellsItem, SpellsModulus, SpellsPart, SpellsRelation}
use Rattle.mf_plural.specs.declared.rule.Item.{Item}
use Rattle.mf_plural.specs.declared.rule.Item.TheVariants as item
use Rattle.mf_plural.specs.declared.rule.Relation.{Relation}
use Rattle.mf_plural.specs.declared.rule.Rule.{Rule}
use Rattle.mf_plural.specs.declared.token.Separator.{Separator}
use Rattle.mf_plural.specs.declared.token.Separator.TheVariants.{BetweenItems, BetweenRelations, BetweenParts}
use Rattle.mf_plural.specs.declared.token.Token.{Token}
use Rattle.mf_plural.specs.declared.token.Token.TheVariants as token
use Rattle.mf_plural.proofs.Ends.{is_close, is_dots, is_number}
use Rattle.mf_plural.proofs.Spaced.{AreNotClose}

far_before : (a b x y : Bool) → a ≡ false → b ≡ false → (a && x || b && y) ≡ false
far_before a b x y left right = ap (λ (c : Bool). c && x || b && y) left ∙ ap (λ (c : Bool). false || c && y) right

far_behind : (a b x y : Bool) → x ≡ false → y ≡ false → (a && x || b && y) ≡ false
far_behind true true x y left right = ap (λ (c : Bool). c || y) left ∙ right
far_behind true false x y left right = ap (λ (c : Bool). c || false) left
far_behind false true x y left right = right
far_behind false false x y left right = refl

cons_far : (t : Token) (ts : List Token) → is_number t ≡ false → is_dots t ≡ false → AreNotClose ts → AreNotClose (t ∷ ts)
cons_far t [] number dots far = tt
cons_far t (u ∷ us) number dots far = (far_before (is_number t) (is_dots t) (is_number u) (is_dots u) number dots, far)

sep_plain : (s : Separator) (t : Token) → separates s t ≡ true → (is_number t ≡ false) × (is_dots t ≡ false)
sep_plain BetweenItems token.Comma is = (refl, refl)
sep_plain BetweenRelations token.And is = (refl, refl)
sep_plain BetweenParts token.Or is = (refl, refl)
sep_plain _ _ is = absurd (false≢true is)

AllFar : List (List Token) → Type 0
AllFar [] = Unit {0}
AllFar (piece ∷ pieces) = AreNotClose piece × AllFar pieces

pieces_far : (t u : Token) (pieces : List (List Token)) → AllFar (onto_first t (onto_first u pieces)) → (is_close t u ≡ false) × AllFar (onto_first u pieces)
unfolding AllFar
pieces_far t u [] all = (all.0.0, (all.0.1, all.1))
pieces_far t u (piece ∷ pieces) all = (all.0.0, (all.0.1, all.1))

join_two : (s : Separator) (t u : Token) (us : List Token) → (AllFar (between s (u ∷ us)) → AreNotClose (u ∷ us)) → (b : Bool) → separates s u ≡ b
    → AllFar (onto_first t (cond b ([] ∷ between s us) (onto_first u (between s us)))) → AreNotClose (t ∷ u ∷ us)
unfolding AllFar
join_two s t u us ih true is all =
    let plain = sep_plain s u is in (
      far_behind (is_number t) (is_dots t) (is_number u) (is_dots u) plain.0 plain.1,
      ih (subst (λ (b : Bool). AllFar (cond b ([] ∷ between s us) (onto_first u (between s us)))) (sym is) (tt, all.1)),
    )
join_two s t u us ih false is all =
    let parts = pieces_far t u (between s us) all in
    (parts.0, ih (subst (λ (b : Bool). AllFar (cond b ([] ∷ between s us) (onto_first u (between s us)))) (sym is) parts.1))

join_plain : (s : Separator) (t : Token) (ts : List Token) → (AllFar (between s ts) → AreNotClose ts) → AllFar (onto_first t (between s ts)) → AreNotClose (t ∷ ts)
join_plain s t [] ih all = tt
join_plain s t (u ∷ us) ih all = join_two s t u us ih (separates s u) refl all

join_next : (s : Separator) (t : Token) (ts : List Token) → (AllFar (between s ts) → AreNotClose ts) → (b : Bool) → separates s t ≡ b
    → AllFar (cond b ([] ∷ between s ts) (onto_first t (between s ts))) → AreNotClose (t ∷ ts)
unfolding AllFar
join_next s t ts ih true is all = let plain = sep_plain s t is in cons_far t ts plain.0 plain.1 (ih all.1)
join_next s t ts ih false is all = join_plain s t ts ih all

join_far : (s : Separator) (tokens : List Token) → AllFar (between s tokens) → AreNotClose tokens
join_far s [] all = tt
join_far s (t ∷ ts) all = join_next s t ts (join_far s ts) (separates s t) refl all

each_far : {B : Type 0} (R : List Token → B → Type 0) → ((tokens : List Token) (y : B) → R tokens y → AreNotClose tokens) → (pieces : List (List Token)) (ys : List B)
    → Each R pieces ys → AllFar pieces
unfolding AllFar
each_far R far [] ys each = tt
each_far R far (piece ∷ pieces) [] each = absurd each
each_far R far (piece ∷ pieces) (y ∷ ys) each = (far piece y each.0, each_far R far pieces ys each.1)

item_far : (tokens : List Token) (i : Item) → SpellsItem tokens i → AreNotClose tokens
item_far tokens (item.Value v) is = subst (λ ts. AreNotClose ts) (sym is) tt
item_far tokens (item.Range a b) is = subst (λ ts. AreNotClose ts) (sym is.0) (refl, (refl, tt))

sign_far : (negated : Bool) (list : List Token) → AreNotClose list → AreNotClose (sign negated ∷ list)
sign_far true list far = cons_far token.Differs list refl refl far
sign_far false list far = cons_far token.Equals list refl refl far

value_far : (m : ℕ) (negated : Bool) (list : List Token) → AreNotClose (sign negated ∷ list) → AreNotClose (token.Value m ∷ sign negated ∷ list)
value_far m true list far = (refl, far)
value_far m false list far = (refl, far)

modulus_far : (modulus : List Token) (m : Option ℕ) (negated : Bool) (list : List Token) → SpellsModulus modulus m → AreNotClose list → AreNotClose (modulus ++ sign negated ∷ list)
modulus_far modulus None negated list is far = subst (λ front. AreNotClose (front ++ sign negated ∷ list)) (sym is) (sign_far negated list far)
modulus_far modulus (Some m) negated list is far =
    subst (λ front. AreNotClose (front ++ sign negated ∷ list)) (sym is.0)
    (cons_far token.Percent (token.Value m ∷ sign negated ∷ list) refl refl (value_far m negated list (sign_far negated list far)))

relation_far : (tokens : List Token) (r : Relation) → SpellsRelation tokens r → AreNotClose tokens
relation_far tokens r is =
    let list = join_far BetweenItems is.list (each_far SpellsItem item_far (between BetweenItems is.list) r.items is.is_list) in
    subst (λ ts. AreNotClose ts) (sym is.parts)
    (cons_far (token.Operand r.operand) (is.modulus ++ sign r.negated ∷ is.list) refl refl (modulus_far is.modulus r.modulus r.negated is.list is.is_modulus list))

part_far : (tokens : List Token) (part : List Relation) → SpellsPart tokens part → AreNotClose tokens
part_far tokens part is = join_far BetweenRelations tokens (each_far SpellsRelation relation_far (between BetweenRelations tokens) part is)

condition_far : (tokens : List Token) (parts : List (List Relation)) → SpellsCondition tokens parts → AreNotClose tokens
condition_far [] parts is = tt
condition_far (first ∷ tokens) parts is = join_far BetweenParts (first ∷ tokens) (each_far SpellsPart part_far (between BetweenParts (first ∷ tokens)) parts is)

pub rule_far : (tokens : List Token) (rule : Rule) → IsRule tokens rule → AreNotClose tokens
rule_far tokens rule is =
    subst (λ ts. AreNotClose ts) (sym is.parts)
    (cons_far (token.Keyword rule.keyword) (token.Colon ∷ is.rest) refl refl (cons_far token.Colon is.rest refl refl (condition_far is.rest rule.condition is.condition)))
