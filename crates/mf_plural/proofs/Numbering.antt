-- The rules of a text, one after the other.
use Rattle.std.proofs.Common.{◌≡◌, ◌∙◌, ℕ, ◌+◌, ◌<◌, ◌≤◌, Bool, true, false, cond, List, [], ◌∷◌, ◌++◌, length, map, Option, Some, None, Ok, Err, refl, ap, sym, subst, append_assoc, arith}
use Rattle.std.specs.Prelude.{◌==◌, ◌||◌, nat_eq, All}
use Rattle.std.specs.List.{AllByRecursion, IsDistinct, list_all, list_any}
use Rattle.std.proofs.lemmas.Bool.{and_parts, false≢true}
use Rattle.std.proofs.lemmas.Bool.Decides.{nat_tests}
use Rattle.std.proofs.lemmas.List.Elements.{All-from_recursion}
use Rattle.std.proofs.lemmas.List.Splits.{slice_split_none}
use Rattle.std.proofs.lemmas.Cmp.{nat_eq_equiv}
use Rattle.std.proofs.lemmas.List.{append-nil, length-map, map-append}
use Rattle.std.proofs.lemmas.Map.Keys.{IsDistinct-push}
use Rattle.std.proofs.lemmas.Map.Steps.{length-le_from_distinct_below}
use Rattle.mf_plural.specs.Grammar.{rule_texts, without_blank_end, IsFirstBad, SpellEach, SpellsNewRule, SpellsRules, is_white}
use Rattle.mf_plural.specs.Keywords.{has_keyword, rank}
use Rattle.mf_plural.specs.Computed.{new_rule, rules_behind, rules_of, with_rule}
use Rattle.mf_plural.specs.declared.rule.Category.{Category}
use Rattle.mf_plural.specs.declared.rule.Category.TheVariants.{Zero, One, Two, Few, Many, Other}
use Rattle.mf_plural.specs.declared.rule.Rule.{Rule}
use Rattle.mf_plural.proofs.Meaning.{new_good, new_is}

-- the rules are those of a front of the texts
pub record ReadsFront (text rest : List ℕ) (rules : List Rule) : Type 0 where
  pub front : List (List ℕ)
  pub parts : rule_texts text ≡ front ++ rule_texts rest
  pub good : SpellEach [] front rules
  pub computed : rules_of text ≡ rules_behind rules (rule_texts rest)

pub front_start : (text : List ℕ) → ReadsFront text text []
front_start text = record { front = []; parts = refl; good = tt; computed = refl }

-- what comes of the rules so far and the texts that are left, where the next one is known
computed_next : (rules : List Rule) (left after : List (List ℕ)) (first : List ℕ) (found : Option Rule) → left ≡ first ∷ after → found ≡ new_rule rules first
    → rules_behind rules left ≡ with_rule found (length rules + 1) (λ rule. rules_behind (rules ++ rule ∷ []) after)
computed_next rules left after first found texts is =
    ap (rules_behind rules) texts ∙ ap (λ (o : Option Rule). with_rule o (length rules + 1) (λ rule. rules_behind (rules ++ rule ∷ []) after)) (sym is)

spell_more : (earlier : List Rule) (texts : List (List ℕ)) (rules : List Rule) (text : List ℕ) (rule : Rule)
    → SpellEach earlier texts rules → SpellsNewRule (earlier ++ rules) text rule → SpellEach earlier (texts ++ text ∷ []) (rules ++ rule ∷ [])
spell_more earlier [] [] text rule good next = (subst (λ before. SpellsNewRule before text rule) (append-nil earlier) next, tt)
spell_more earlier [] (r ∷ rules) text rule good next = absurd good
spell_more earlier (t ∷ texts) [] text rule good next = absurd good
spell_more earlier (t ∷ texts) (r ∷ rules) text rule good next =
    (good.0, spell_more (earlier ++ r ∷ []) texts rules text rule good.1 (subst (λ before. SpellsNewRule before text rule) (sym (append_assoc earlier (r ∷ []) rules)) next))

-- one more rule is read
pub front_more : (text rest first after : List ℕ) (rules next : List Rule) (rule : Rule) → ReadsFront text rest rules → rule_texts rest ≡ first ∷ rule_texts after
    → Some rule ≡ new_rule rules first → next ≡ rules ++ rule ∷ [] → ReadsFront text after next
front_more text rest first after rules next rule so_far texts is then =
    subst (λ rs. ReadsFront text after rs) (sym then) (
    record {
      front = so_far.front ++ first ∷ [];
      parts = so_far.parts ∙ ap (λ ts. so_far.front ++ ts) texts ∙ sym (append_assoc so_far.front (first ∷ []) (rule_texts after));
      good = spell_more [] so_far.front rules first rule so_far.good (new_good rules first rule (sym is));
      computed = so_far.computed ∙ computed_next rules (rule_texts rest) (rule_texts after) first (Some rule) texts is;
    })

-- nothing is left
pub front_whole : (text rest : List ℕ) (rules : List Rule) → ReadsFront text rest rules → rule_texts rest ≡ [] → SpellsRules text rules
front_whole text rest rules so_far none =
    let all : rule_texts text ≡ so_far.front = so_far.parts ∙ ap (λ ts. so_far.front ++ ts) none ∙ append-nil so_far.front in
    subst (λ ts. SpellEach [] ts rules) (sym all) so_far.good

-- so all rules are computed
pub front_computed : (text rest : List ℕ) (rules : List Rule) → ReadsFront text rest rules → rule_texts rest ≡ [] → rules_of text ≡ Ok rules
front_computed text rest rules so_far none = so_far.computed ∙ ap (rules_behind rules) none

none_spelled : (rules : List Rule) (first : List ℕ) → None ≡ new_rule rules first → (rule : Rule) → SpellsNewRule rules first rule → ⊥
none_spelled rules first none rule spells = let some : new_rule rules first ≡ Some rule = new_is rules first rule spells in cc

-- the next rule is bad
pub front_bad : (text rest first after : List ℕ) (rules : List Rule) (number : ℕ) → ReadsFront text rest rules → rule_texts rest ≡ first ∷ rule_texts after
    → None ≡ new_rule rules first → number ≡ length rules + 1 → IsFirstBad text number
front_bad text rest first after rules number so_far texts none counted = record {
  rules = rules;
  before = so_far.front;
  bad = first;
  after = rule_texts after;
  parts = so_far.parts ∙ ap (λ ts. so_far.front ++ ts) texts;
  good = so_far.good;
  is_bad = none_spelled rules first none;
  counted = counted;
}

-- and its number is computed
pub front_numbered : (text rest first after : List ℕ) (rules : List Rule) (number : ℕ) → ReadsFront text rest rules → rule_texts rest ≡ first ∷ rule_texts after
    → None ≡ new_rule rules first → number ≡ length rules + 1 → rules_of text ≡ Err number
front_numbered text rest first after rules number so_far texts none counted =
    so_far.computed ∙ computed_next rules (rule_texts rest) (rule_texts after) first None texts none ∙ ap Err (sym counted)

ranks : List Rule → List ℕ
ranks rules = map (λ rule. rank rule.keyword) rules

among_ranks : (keyword : Category) (rules : List Rule) → list_any (nat_eq (rank keyword)) (map (λ rule. rank rule.keyword) rules) ≡ has_keyword keyword rules
among_ranks keyword [] = refl
among_ranks keyword (rule ∷ rules) = ap (λ rest. (rank keyword == rank rule.keyword) || rest) (among_ranks keyword rules)

rank_below : (keyword : Category) → rank keyword < 6
rank_below Zero = omega arith
rank_below One = omega arith
rank_below Two = omega arith
rank_below Few = omega arith
rank_below Many = omega arith
rank_below Other = omega arith

distinct_none : IsDistinct nat_eq []
unfolding IsDistinct
distinct_none = tt

-- no two rules have one keyword
spell_distinct : (earlier : List Rule) (texts : List (List ℕ)) (rules : List Rule) → SpellEach earlier texts rules → IsDistinct nat_eq (ranks earlier)
    → IsDistinct nat_eq (ranks (earlier ++ rules))
unfolding ranks
spell_distinct earlier [] [] good distinct = subst (λ rs. IsDistinct nat_eq (ranks rs)) (sym (append-nil earlier)) distinct
spell_distinct earlier [] (rule ∷ rules) good distinct = absurd good
spell_distinct earlier (text ∷ texts) [] good distinct = absurd good
spell_distinct earlier (text ∷ texts) (rule ∷ rules) good distinct =
    let is_new : list_any (nat_eq (rank rule.keyword)) (ranks earlier) ≡ false = among_ranks rule.keyword earlier ∙ good.0.is_new in
    let pushed : IsDistinct nat_eq (ranks earlier ++ rank rule.keyword ∷ []) = IsDistinct-push nat_eq_equiv (ranks earlier) (rank rule.keyword) distinct is_new in
    let next : IsDistinct nat_eq (ranks (earlier ++ rule ∷ [])) =
    subst (λ ps. IsDistinct nat_eq ps) (sym (map-append (λ r. rank r.keyword) earlier (rule ∷ []))) pushed in
    subst (λ rs. IsDistinct nat_eq (ranks rs)) (append_assoc earlier (rule ∷ []) rules) (spell_distinct (earlier ++ rule ∷ []) texts rules good.1 next)

among_below : (q p : ℕ) (rest : Bool) → p < 6 → (rest ≡ true → q < 6) → (nat_eq q p || rest) ≡ true → q < 6
among_below q p true small later among = later refl
among_below q p false small later among = grind (arith, nat_tests, small, among)

all_below : (rules : List Rule) (q : ℕ) → list_any (nat_eq q) (map (λ rule. rank rule.keyword) rules) ≡ true → q < 6
all_below [] q among = absurd (false≢true among)
all_below (rule ∷ rules) q among =
    among_below q (rank rule.keyword) (list_any (nat_eq q) (map (λ r. rank r.keyword) rules)) (rank_below rule.keyword) (all_below rules q) among

-- so there are at most six of them
pub front_short : (text rest : List ℕ) (rules : List Rule) → ReadsFront text rest rules → length rules ≤ 6
unfolding ranks
front_short text rest rules so_far =
    let distinct : IsDistinct nat_eq (ranks rules) = spell_distinct [] so_far.front rules so_far.good distinct_none in
    let short : length (ranks rules) ≤ 6 = length-le_from_distinct_below (ranks rules) 6 distinct (all_below rules) in
    omega (arith, short, length-map rules (λ (rule : Rule). rank rule.keyword))

no_mark : (byte : ℕ) → is_white byte ≡ true → (byte == 59) ≡ false
no_mark byte white = grind (arith, nat_tests, white)

each_no_semicolon : (text : List ℕ) → list_all is_white text ≡ true → AllByRecursion (λ byte. (byte == 59) ≡ false) text
each_no_semicolon [] blank = tt
each_no_semicolon (byte ∷ text) blank =
    let parts = and_parts (is_white byte) (list_all is_white text) blank in
    (no_mark byte parts.0, each_no_semicolon text parts.1)

no_semicolon : (text : List ℕ) → list_all is_white text ≡ true → All (λ byte. (byte == 59) ≡ false) text
no_semicolon text blank = All-from_recursion (λ byte. (byte == 59) ≡ false) text (each_no_semicolon text blank)

-- white space alone has no rules
pub blank_texts : (text : List ℕ) → list_all is_white text ≡ true → rule_texts text ≡ []
blank_texts text blank =
    ap without_blank_end (slice_split_none (λ byte. byte == 59) text (no_semicolon text blank)) ∙ ap (λ (b : Bool). cond b [] (text ∷ [])) blank
