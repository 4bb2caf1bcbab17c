-- Each text spells its rules or has a first bad one.
use Rattle.std.proofs.Common.{◌≡◌, ◌∙◌, ◌⊎◌, inl, inr, ℕ, suc, ◌+◌, List, [], ◌∷◌, ◌++◌, length, Option, Some, None, refl, ap, sym, subst, append_assoc}
use Rattle.std.proofs.lemmas.List.{append-nil}
use Rattle.mf_plural.specs.Grammar.{rule_texts, IsFirstBad, SpellEach, SpellsNewRule, SpellsRules}
use Rattle.mf_plural.specs.Laws.{IsBad, IsGood}
use Rattle.mf_plural.specs.Computed.{new_rule}
use Rattle.mf_plural.specs.declared.rule.Rule.{Rule}
use Rattle.mf_plural.proofs.Meaning.{new_good, new_is}
use Rattle.mf_plural.proofs.Options.{same_some}

no_rule : (earlier : List Rule) (text : List ℕ) → new_rule earlier text ≡ None → (rule : Rule) → SpellsNewRule earlier text rule → ⊥
no_rule earlier text none rule spells = let some : new_rule earlier text ≡ Some rule = new_is earlier text rule spells in cc

same_rule : (earlier : List Rule) (text : List ℕ) (rule other : Rule) → SpellsNewRule earlier text rule → SpellsNewRule earlier text other → rule ≡ other
same_rule earlier text rule other spells spells_too = same_some rule other (sym (new_is earlier text rule spells) ∙ new_is earlier text other spells_too)

first_same : {A : Type 0} (x y : A) (xs ys : List A) → x ∷ xs ≡ y ∷ ys → x ≡ y
first_same x y xs ys is = cc

rest_same : {A : Type 0} (x y : A) (xs ys : List A) → x ∷ xs ≡ y ∷ ys → xs ≡ ys
rest_same x y xs ys is = cc

-- the rules before a bad one, or all
record Stops (earlier : List Rule) (texts : List (List ℕ)) : Type 0 where
  rules : List Rule
  before : List (List ℕ)
  bad : List ℕ
  after : List (List ℕ)
  parts : texts ≡ before ++ bad ∷ after
  good : SpellEach earlier before rules
  is_bad : (rule : Rule) → SpellsNewRule (earlier ++ rules) bad rule → ⊥

record Goes (earlier : List Rule) (texts : List (List ℕ)) : Type 0 where
  rules : List Rule
  good : SpellEach earlier texts rules

stops_here : (earlier : List Rule) (text : List ℕ) (texts : List (List ℕ)) → new_rule earlier text ≡ None → Stops earlier (text ∷ texts)
stops_here earlier text texts none = record {
  rules = [];
  before = [];
  bad = text;
  after = texts;
  parts = refl;
  good = tt;
  is_bad = λ rule spells. no_rule earlier text none rule (subst (λ rules. SpellsNewRule rules text rule) (append-nil earlier) spells);
}

stops_later : (earlier : List Rule) (text : List ℕ) (texts : List (List ℕ)) (rule : Rule) → SpellsNewRule earlier text rule → Stops (earlier ++ rule ∷ []) texts
    → Stops earlier (text ∷ texts)
stops_later earlier text texts rule spells later = record {
  rules = rule ∷ later.rules;
  before = text ∷ later.before;
  bad = later.bad;
  after = later.after;
  parts = ap (λ ts. text ∷ ts) later.parts;
  good = (spells, later.good);
  is_bad = λ next next_spells. later.is_bad next (subst (λ rules. SpellsNewRule rules later.bad next) (sym (append_assoc earlier (rule ∷ []) later.rules)) next_spells);
}

goes_on : (earlier : List Rule) (text : List ℕ) (texts : List (List ℕ)) (rule : Rule) → SpellsNewRule earlier text rule
    → Goes (earlier ++ rule ∷ []) texts ⊎ Stops (earlier ++ rule ∷ []) texts → Goes earlier (text ∷ texts) ⊎ Stops earlier (text ∷ texts)
goes_on earlier text texts rule spells (inl later) = inl (record { rules = rule ∷ later.rules; good = (spells, later.good) })
goes_on earlier text texts rule spells (inr later) = inr (stops_later earlier text texts rule spells later)

next_decided : (earlier : List Rule) (text : List ℕ) (texts : List (List ℕ)) (found : Option Rule) → new_rule earlier text ≡ found
    → ((rule : Rule) → Goes (earlier ++ rule ∷ []) texts ⊎ Stops (earlier ++ rule ∷ []) texts) → Goes earlier (text ∷ texts) ⊎ Stops earlier (text ∷ texts)
next_decided earlier text texts None is later = inr (stops_here earlier text texts is)
next_decided earlier text texts (Some rule) is later = goes_on earlier text texts rule (new_good earlier text rule is) (later rule)

decided : (earlier : List Rule) (texts : List (List ℕ)) → Goes earlier texts ⊎ Stops earlier texts
decided earlier [] = inl (record { rules = []; good = tt })
decided earlier (text ∷ texts) = next_decided earlier text texts (new_rule earlier text) refl (λ rule. decided (earlier ++ rule ∷ []) texts)

either : (text : List ℕ) → Goes [] (rule_texts text) ⊎ Stops [] (rule_texts text) → IsGood text ⊎ IsBad text
either text (inl goes) = inl (record { rules = goes.rules; spelled = goes.good })
either text (inr stops) = inr (
    record {
      number = length stops.rules + 1;
      first =
          record {
            rules = stops.rules;
            before = stops.before;
            bad = stops.bad;
            after = stops.after;
            parts = stops.parts;
            good = stops.good;
            is_bad = stops.is_bad;
            counted = refl;
          };
    })

pub good_or_bad : (text : List ℕ) → IsGood text ⊎ IsBad text
good_or_bad text = either text (decided [] (rule_texts text))

each_once : (earlier : List Rule) (texts : List (List ℕ)) (rules others : List Rule) → SpellEach earlier texts rules → SpellEach earlier texts others → rules ≡ others
each_once earlier [] [] [] good good_too = refl
each_once earlier [] [] (other ∷ others) good good_too = absurd good_too
each_once earlier [] (rule ∷ rules) others good good_too = absurd good
each_once earlier (text ∷ texts) [] others good good_too = absurd good
each_once earlier (text ∷ texts) (rule ∷ rules) [] good good_too = absurd good_too
each_once earlier (text ∷ texts) (rule ∷ rules) (other ∷ others) good good_too =
    let same = same_rule earlier text rule other good.0 good_too.0 in
    let rest = each_once (earlier ++ rule ∷ []) texts rules others good.1 (subst (λ r. SpellEach (earlier ++ r ∷ []) texts others) (sym same) good_too.1) in
    ap (λ r. r ∷ rules) same ∙ ap (λ rs. other ∷ rs) rest

pub once : (text : List ℕ) (rules others : List Rule) → SpellsRules text rules → SpellsRules text others → rules ≡ others
once text rules others good good_too = each_once [] (rule_texts text) rules others good good_too

-- good rules don't reach over a bad one
no_way : (earlier : List Rule) (before : List (List ℕ)) (bad : List ℕ) (after : List (List ℕ)) (front rules : List Rule)
    → SpellEach earlier before front → ((rule : Rule) → SpellsNewRule (earlier ++ front) bad rule → ⊥) → SpellEach earlier (before ++ bad ∷ after) rules → ⊥
no_way earlier [] bad after [] [] good is_bad all = all
no_way earlier [] bad after [] (rule ∷ rules) good is_bad all = is_bad rule (subst (λ rs. SpellsNewRule rs bad rule) (sym (append-nil earlier)) all.0)
no_way earlier [] bad after (first ∷ front) rules good is_bad all = good
no_way earlier (text ∷ before) bad after [] rules good is_bad all = good
no_way earlier (text ∷ before) bad after (first ∷ front) [] good is_bad all = all
no_way earlier (text ∷ before) bad after (first ∷ front) (rule ∷ rules) good is_bad all =
    let same = same_rule earlier text first rule good.0 all.0 in
    no_way (earlier ++ first ∷ []) before bad after front rules good.1
    (λ next spells. is_bad next (subst (λ rs. SpellsNewRule rs bad next) (append_assoc earlier (first ∷ []) front) spells))
    (subst (λ r. SpellEach (earlier ++ r ∷ []) (before ++ bad ∷ after) rules) (sym same) all.1)

pub not_both : (text : List ℕ) → IsGood text → IsBad text → ⊥
not_both text good bad =
    no_way [] bad.first.before bad.first.bad bad.first.after bad.first.rules good.rules bad.first.good bad.first.is_bad
    (subst (λ ts. SpellEach [] ts good.rules) bad.first.parts good.spelled)

-- two fronts before bad rules are of one length
same_length : (earlier : List Rule) (before : List (List ℕ)) (bad : List ℕ) (after : List (List ℕ)) (front : List Rule)
    (before' : List (List ℕ)) (bad' : List ℕ) (after' : List (List ℕ)) (front' : List Rule)
    → before ++ bad ∷ after ≡ before' ++ bad' ∷ after'
    → SpellEach earlier before front → ((rule : Rule) → SpellsNewRule (earlier ++ front) bad rule → ⊥)
    → SpellEach earlier before' front' → ((rule : Rule) → SpellsNewRule (earlier ++ front') bad' rule → ⊥)
    → length front ≡ length front'
same_length earlier [] bad after [] [] bad' after' [] is good is_bad good' is_bad' = refl
same_length earlier [] bad after [] [] bad' after' (rule ∷ front') is good is_bad good' is_bad' = absurd good'
same_length earlier [] bad after (rule ∷ front) before' bad' after' front' is good is_bad good' is_bad' = absurd good
same_length earlier [] bad after [] (text ∷ before') bad' after' [] is good is_bad good' is_bad' = absurd good'
same_length earlier [] bad after [] (text ∷ before') bad' after' (rule ∷ front') is good is_bad good' is_bad' =
    let same = first_same bad text after (before' ++ bad' ∷ after') is in
    absurd (is_bad rule (subst (λ rs. SpellsNewRule rs bad rule) (sym (append-nil earlier)) (subst (λ t. SpellsNewRule earlier t rule) (sym same) good'.0)))
same_length earlier (text ∷ before) bad after [] before' bad' after' front' is good is_bad good' is_bad' = absurd good
same_length earlier (text ∷ before) bad after (rule ∷ front) [] bad' after' (other ∷ front') is good is_bad good' is_bad' = absurd good'
same_length earlier (text ∷ before) bad after (rule ∷ front) [] bad' after' [] is good is_bad good' is_bad' =
    let same = first_same text bad' (before ++ bad ∷ after) after' is in
    absurd (is_bad' rule (subst (λ rs. SpellsNewRule rs bad' rule) (sym (append-nil earlier)) (subst (λ t. SpellsNewRule earlier t rule) same good.0)))
same_length earlier (text ∷ before) bad after (rule ∷ front) (text' ∷ before') bad' after' [] is good is_bad good' is_bad' = absurd good'
same_length earlier (text ∷ before) bad after (rule ∷ front) (text' ∷ before') bad' after' (rule' ∷ front') is good is_bad good' is_bad' =
    let same_text = first_same text text' (before ++ bad ∷ after) (before' ++ bad' ∷ after') is in
    let same = same_rule earlier text rule rule' good.0 (subst (λ t. SpellsNewRule earlier t rule') (sym same_text) good'.0) in
    ap suc (
    same_length (earlier ++ rule ∷ []) before bad after front before' bad' after' front'
    (rest_same text text' (before ++ bad ∷ after) (before' ++ bad' ∷ after') is) good.1
    (λ next spells. is_bad next (subst (λ rs. SpellsNewRule rs bad next) (append_assoc earlier (rule ∷ []) front) spells))
    (subst (λ r. SpellEach (earlier ++ r ∷ []) before' front') (sym same) good'.1)
    (λ next spells. is_bad' next (subst (λ rs. SpellsNewRule rs bad' next) (append_assoc earlier (rule' ∷ []) front')
    (subst (λ r. SpellsNewRule ((earlier ++ r ∷ []) ++ front') bad' next) same spells))))

pub numbered_once : (text : List ℕ) (number other : ℕ) → IsFirstBad text number → IsFirstBad text other → number ≡ other
numbered_once text number other first second =
    let same = same_length [] first.before first.bad first.after first.rules second.before second.bad second.after second.rules
    (sym first.parts ∙ second.parts) first.good first.is_bad second.good second.is_bad in
    first.counted ∙ ap (λ n. n + 1) same ∙ sym second.counted
