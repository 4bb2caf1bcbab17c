-- What a text spells is the rule that is computed of it.
use Rattle.std.proofs.Common.{◌≡◌, ◌≢◌, ◌∙◌, ℕ, ◌≤◌, Bool, true, false, cond, List, [], ◌∷◌, ◌++◌, Option, Some, None, refl, ap, sym, subst, arith}
use Rattle.std.specs.Prelude.{◌==◌, nat_le}
use Rattle.std.specs.Option.{option_and_then, option_map}
use Rattle.std.proofs.lemmas.Bool.Decides.{nat_tests}
use Rattle.std.proofs.lemmas.Option.{none-some}
use Rattle.mf_plural.specs.Grammar.{before_samples, between, is_fit, SpellsNewRule, Each, IsRule, SpellsCondition, SpellsItem, SpellsItems, SpellsModulus, SpellsPart, SpellsRelation, SpellsRule, SpellsToken, sign}
use Rattle.mf_plural.specs.Keywords.{has_keyword}
use Rattle.mf_plural.specs.Computed.{lexemes, compared, condition_of, fit_rule, if_new, item_of, items_of, new_rule, part_of, relation_of, rule_from, rule_of, all_of, token_of, tokens_of}
use Rattle.mf_plural.specs.declared.rule.Category.{Category}
use Rattle.mf_plural.specs.declared.rule.Item.{Item}
use Rattle.mf_plural.specs.declared.rule.Item.TheVariants as item
use Rattle.mf_plural.specs.declared.rule.Operand.{Operand}
use Rattle.mf_plural.specs.declared.rule.Relation.{Relation}
use Rattle.mf_plural.specs.declared.rule.Rule.{Rule}
use Rattle.mf_plural.specs.declared.token.Separator.TheVariants.{BetweenItems, BetweenRelations, BetweenParts}
use Rattle.mf_plural.specs.declared.token.Token.{Token}
use Rattle.mf_plural.specs.declared.token.Token.TheVariants as token
use Rattle.mf_plural.proofs.Apart.{rule_far}
use Rattle.mf_plural.proofs.Spaced.{cut_so, spaced_from_cut}
use Rattle.mf_plural.proofs.Options.{and_then_some, cond_given, cond_second, map_some, same_some}
use Rattle.mf_plural.proofs.TokenMeaning.{token_good, token_is}

no_more : {B : Type 0} (y : B) (ys : List B) → Some [] ≡ Some (y ∷ ys) → ⊥
no_more y ys is = cc

-- members that are computed belong to those that they are computed of, and the other way round
each_good : {A B : Type 0} (f : A → Option B) (R : A → B → Type 0) → ((x : A) (y : B) → f x ≡ Some y → R x y)
    → (xs : List A) (ys : List B) → all_of f xs ≡ Some ys → Each R xs ys
each_good f R good [] [] is = tt
each_good f R good [] (y ∷ ys) is = absurd (no_more y ys is)
each_good f R good (x ∷ xs) ys is =
    let first = and_then_some (λ y. option_map (λ zs. y ∷ zs) (all_of f xs)) (f x) ys is in
    let rest = map_some (λ zs. first.0 ∷ zs) (all_of f xs) ys first.2 in
    subst (λ zs. Each R (x ∷ xs) zs) rest.2 (good x first.0 first.1, each_good f R good xs rest.0 rest.1)

each_is : {A B : Type 0} (f : A → Option B) (R : A → B → Type 0) → ((x : A) (y : B) → R x y → f x ≡ Some y)
    → (xs : List A) (ys : List B) → Each R xs ys → all_of f xs ≡ Some ys
each_is f R given [] [] each = refl
each_is f R given [] (y ∷ ys) each = absurd each
each_is f R given (x ∷ xs) [] each = absurd each
each_is f R given (x ∷ xs) (y ∷ ys) each =
    ap (λ o. option_and_then (λ z. option_map (λ zs. z ∷ zs) (all_of f xs)) o) (given x y each.0)
    ∙ ap (λ o. option_map (λ zs. y ∷ zs) o) (each_is f R given xs ys each.1)

at_most : (a b : ℕ) → nat_le a b ≡ true → a ≤ b
at_most a b is = grind (arith, nat_tests, is)

is_at_most : (a b : ℕ) → a ≤ b → nat_le a b ≡ true
is_at_most a b h = grind (arith, nat_tests, h)

item_good : (tokens : List Token) (i : Item) → item_of tokens ≡ Some i → SpellsItem tokens i
item_good (token.Value v ∷ []) i is = subst (λ x. SpellsItem (token.Value v ∷ []) x) (same_some (item.Value v) i is) refl
item_good (token.Value a ∷ token.Dots ∷ token.Value b ∷ []) i is =
    let parts = cond_given (nat_le a b) (item.Range a b) i is in
    subst (λ x. SpellsItem (token.Value a ∷ token.Dots ∷ token.Value b ∷ []) x) parts.1 (refl, at_most a b parts.0)
item_good _ i is = absurd (none-some i is)

item_is : (tokens : List Token) (i : Item) → SpellsItem tokens i → item_of tokens ≡ Some i
item_is tokens (item.Value v) spells = ap item_of spells
item_is tokens (item.Range a b) spells = ap item_of spells.0 ∙ ap (λ (t : Bool). cond t (Some (item.Range a b)) None) (is_at_most a b spells.1)

items_good : (tokens : List Token) (items : List Item) → items_of tokens ≡ Some items → SpellsItems tokens items
items_good tokens items is = each_good item_of SpellsItem item_good (between BetweenItems tokens) items is

items_is : (tokens : List Token) (items : List Item) → SpellsItems tokens items → items_of tokens ≡ Some items
items_is tokens items spells = each_is item_of SpellsItem item_is (between BetweenItems tokens) items spells

-- a sign and a list
record Compared (o : Operand) (m : Option ℕ) (tokens : List Token) (r : Relation) : Type 0 where
  list : List Token
  parts : tokens ≡ sign r.negated ∷ list
  is_list : SpellsItems list r.items
  operand : r.operand ≡ o
  modulus : r.modulus ≡ m

compared_good : (o : Operand) (m : Option ℕ) (tokens : List Token) (r : Relation) → compared o m tokens ≡ Some r → Compared o m tokens r
compared_good o m (token.Equals ∷ list) r is =
    let found = map_some (λ items. record { operand = o; modulus = m; negated = false; items = items }) (items_of list) r is in
    subst (λ x. Compared o m (token.Equals ∷ list) x) found.2 (record { list = list; parts = refl; is_list = items_good list found.0 found.1; operand = refl; modulus = refl })
compared_good o m (token.Differs ∷ list) r is =
    let found = map_some (λ items. record { operand = o; modulus = m; negated = true; items = items }) (items_of list) r is in
    subst (λ x. Compared o m (token.Differs ∷ list) x) found.2 (record { list = list; parts = refl; is_list = items_good list found.0 found.1; operand = refl; modulus = refl })
compared_good o m _ r is = absurd (none-some r is)

no_zero : (m : ℕ) → (m == 0) ≡ false → m ≢ 0
no_zero m is e = grind (arith, nat_tests, is, e)

is_no_zero : (m : ℕ) → m ≢ 0 → (m == 0) ≡ false
is_no_zero m some = grind (arith, nat_tests, some)

with_modulus : (o : Operand) (m : ℕ) (tokens : List Token) (r : Relation) → m ≢ 0 → Compared o (Some m) tokens r
    → SpellsRelation (token.Operand o ∷ token.Percent ∷ token.Value m ∷ tokens) r
with_modulus o m tokens r some c = record {
  modulus = token.Percent ∷ token.Value m ∷ [];
  list = c.list;
  parts =
      ap (λ ts. token.Operand o ∷ token.Percent ∷ token.Value m ∷ ts) c.parts
      ∙ ap (λ x. token.Operand x ∷ token.Percent ∷ token.Value m ∷ sign r.negated ∷ c.list) (sym c.operand);
  is_modulus = subst (λ x. SpellsModulus (token.Percent ∷ token.Value m ∷ []) x) (sym c.modulus) (refl, some);
  is_list = c.is_list;
}

without_modulus : (o : Operand) (tokens : List Token) (r : Relation) → Compared o None tokens r → SpellsRelation (token.Operand o ∷ tokens) r
without_modulus o tokens r c = record {
  modulus = [];
  list = c.list;
  parts = ap (λ ts. token.Operand o ∷ ts) c.parts ∙ ap (λ x. token.Operand x ∷ sign r.negated ∷ c.list) (sym c.operand);
  is_modulus = subst (λ x. SpellsModulus [] x) (sym c.modulus) refl;
  is_list = c.is_list;
}

relation_good : (tokens : List Token) (r : Relation) → relation_of tokens ≡ Some r → SpellsRelation tokens r
relation_good (token.Operand o ∷ token.Percent ∷ token.Value m ∷ tokens) r is =
    let parts = cond_second (m == 0) (compared o (Some m) tokens) r is in
    with_modulus o m tokens r (no_zero m parts.0) (compared_good o (Some m) tokens r parts.1)
relation_good (token.Operand o ∷ tokens) r is = without_modulus o tokens r (compared_good o None tokens r is)
relation_good _ r is = absurd (none-some r is)

compared_is : (o : Operand) (m : Option ℕ) (negated : Bool) (list : List Token) (items : List Item) → SpellsItems list items
    → compared o m (sign negated ∷ list) ≡ Some (record { operand = o; modulus = m; negated = negated; items = items })
compared_is o m false list items spells =
    ap (λ found. option_map (λ items. record { operand = o; modulus = m; negated = false; items = items }) found) (items_is list items spells)
compared_is o m true list items spells =
    ap (λ found. option_map (λ items. record { operand = o; modulus = m; negated = true; items = items }) found) (items_is list items spells)

plain_relation : (o : Operand) (negated : Bool) (list : List Token) → relation_of (token.Operand o ∷ sign negated ∷ list) ≡ compared o None (sign negated ∷ list)
plain_relation o false list = refl
plain_relation o true list = refl

relation_whole : (o : Operand) (m : Option ℕ) (negated : Bool) (items : List Item) (modulus list : List Token) → SpellsModulus modulus m → SpellsItems list items
    → relation_of (token.Operand o ∷ (modulus ++ sign negated ∷ list)) ≡ Some (record { operand = o; modulus = m; negated = negated; items = items })
relation_whole o None negated items modulus list is_modulus is_list =
    ap (λ front. relation_of (token.Operand o ∷ (front ++ sign negated ∷ list))) is_modulus
    ∙ plain_relation o negated list
    ∙ compared_is o None negated list items is_list
relation_whole o (Some m) negated items modulus list is_modulus is_list =
    ap (λ front. relation_of (token.Operand o ∷ (front ++ sign negated ∷ list))) is_modulus.0
    ∙ ap (λ (b : Bool). cond b None (compared o (Some m) (sign negated ∷ list))) (is_no_zero m is_modulus.1)
    ∙ compared_is o (Some m) negated list items is_list

relation_is : (tokens : List Token) (r : Relation) → SpellsRelation tokens r → relation_of tokens ≡ Some r
relation_is tokens r spells =
    ap relation_of spells.parts ∙ relation_whole r.operand r.modulus r.negated r.items spells.modulus spells.list spells.is_modulus spells.is_list

part_good : (tokens : List Token) (part : List Relation) → part_of tokens ≡ Some part → SpellsPart tokens part
part_good tokens part is = each_good relation_of SpellsRelation relation_good (between BetweenRelations tokens) part is

part_is : (tokens : List Token) (part : List Relation) → SpellsPart tokens part → part_of tokens ≡ Some part
part_is tokens part spells = each_is relation_of SpellsRelation relation_is (between BetweenRelations tokens) part spells

condition_good : (tokens : List Token) (parts : List (List Relation)) → condition_of tokens ≡ Some parts → SpellsCondition tokens parts
condition_good [] parts is = sym (same_some [] parts is)
condition_good (first ∷ tokens) parts is = each_good part_of SpellsPart part_good (between BetweenParts (first ∷ tokens)) parts is

condition_is : (tokens : List Token) (parts : List (List Relation)) → SpellsCondition tokens parts → condition_of tokens ≡ Some parts
condition_is [] parts spells = ap Some (sym spells)
condition_is (first ∷ tokens) parts spells = each_is part_of SpellsPart part_is (between BetweenParts (first ∷ tokens)) parts spells

fit_good : (k : Category) (parts : List (List Relation)) (rest : List Token) (rule : Rule) → fit_rule k parts ≡ Some rule → SpellsCondition rest parts
    → IsRule (token.Keyword k ∷ token.Colon ∷ rest) rule
fit_good k parts rest rule is condition =
    let found = cond_given (is_fit k parts) (record { keyword = k; condition = parts }) rule is in
    subst (λ x. IsRule (token.Keyword k ∷ token.Colon ∷ rest) x) found.1 (record { rest = rest; parts = refl; condition = condition; fit = found.0 })

rule_good : (tokens : List Token) (rule : Rule) → rule_of tokens ≡ Some rule → IsRule tokens rule
rule_good (token.Keyword k ∷ token.Colon ∷ rest) rule is =
    let found = and_then_some (fit_rule k) (condition_of rest) rule is in
    fit_good k found.0 rest rule found.2 (condition_good rest found.0 found.1)
rule_good _ rule is = absurd (none-some rule is)

rule_is : (tokens : List Token) (rule : Rule) → IsRule tokens rule → rule_of tokens ≡ Some rule
rule_is tokens rule is =
    ap rule_of is.parts
    ∙ ap (λ o. option_and_then (fit_rule rule.keyword) o) (condition_is is.rest rule.condition is.condition)
    ∙ ap (λ (b : Bool). cond b (Some rule) None) is.fit

pub from_good : (text : List ℕ) (rule : Rule) → rule_from text ≡ Some rule → SpellsRule text rule
from_good text rule is =
    let found = and_then_some rule_of (tokens_of (before_samples text)) rule is in
    record {
      tokens = found.0;
      spelled = spaced_from_cut (before_samples text) found.0 (each_good token_of SpellsToken token_good (lexemes (before_samples text)) found.0 found.1);
      is_rule = rule_good found.0 rule found.2;
    }

pub from_is : (text : List ℕ) (rule : Rule) → SpellsRule text rule → rule_from text ≡ Some rule
from_is text rule spells =
    ap (λ o. option_and_then rule_of o) (each_is token_of SpellsToken token_is (lexemes (before_samples text)) spells.tokens (cut_so false (before_samples text) spells.tokens (rule_far spells.tokens rule spells.is_rule) spells.spelled))
    ∙ rule_is spells.tokens rule spells.is_rule

pub new_good : (earlier : List Rule) (text : List ℕ) (rule : Rule) → new_rule earlier text ≡ Some rule → SpellsNewRule earlier text rule
new_good earlier text rule is =
    let found = and_then_some (if_new earlier) (rule_from text) rule is in
    let parts = cond_second (has_keyword found.0.keyword earlier) (Some found.0) rule found.2 in
    subst (λ x. SpellsNewRule earlier text x) (same_some found.0 rule parts.1) (record { spelled = from_good text found.0 found.1; is_new = parts.0 })

pub new_is : (earlier : List Rule) (text : List ℕ) (rule : Rule) → SpellsNewRule earlier text rule → new_rule earlier text ≡ Some rule
new_is earlier text rule spells =
    ap (λ o. option_and_then (if_new earlier) o) (from_is text rule spells.spelled) ∙ ap (λ (b : Bool). cond b None (Some rule)) spells.is_new
