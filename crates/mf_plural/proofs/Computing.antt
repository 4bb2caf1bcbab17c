-- The rules that are computed are those that a text spells, and the number that is computed is that of its first bad rule.
use Rattle.std.proofs.Common.{◌≡◌, ◌∙◌, ◌⊎◌, inl, inr, ℕ, ◌+◌, List, [], ◌∷◌, ◌++◌, length, Option, Some, None, Ok, Err, refl, ap, sym, subst, append_assoc}
use Rattle.std.specs.Prelude.{Result}
use Rattle.std.proofs.lemmas.List.{append-nil}
use Rattle.mf_plural.specs.Computed.{new_rule, rules_behind, rules_of, with_rule}
use Rattle.mf_plural.specs.Grammar.{IsFirstBad, SpellEach, SpellsNewRule, SpellsRules, rule_texts}
use Rattle.mf_plural.specs.Laws.{IsBad, IsGood}
use Rattle.mf_plural.specs.declared.rule.Rule.{Rule}
use Rattle.mf_plural.proofs.Deciding.{good_or_bad}
use Rattle.mf_plural.proofs.Meaning.{new_good, new_is}

-- what comes of the next text, where it is known what rule it is
next_computed : (earlier : List Rule) (text : List ℕ) (texts : List (List ℕ)) (found : Option Rule) → new_rule earlier text ≡ found
    → rules_behind earlier (text ∷ texts) ≡ with_rule found (length earlier + 1) (λ rule. rules_behind (earlier ++ rule ∷ []) texts)
next_computed earlier text texts found is = ap (λ o. with_rule o (length earlier + 1) (λ rule. rules_behind (earlier ++ rule ∷ []) texts)) is

each_computed : (earlier : List Rule) (texts : List (List ℕ)) (rules : List Rule) → SpellEach earlier texts rules
    → rules_behind earlier texts ≡ Ok (earlier ++ rules)
each_computed earlier [] [] good = ap (λ rs. Ok rs) (sym (append-nil earlier))
each_computed earlier [] (rule ∷ rules) good = absurd good
each_computed earlier (text ∷ texts) [] good = absurd good
each_computed earlier (text ∷ texts) (rule ∷ rules) good =
    next_computed earlier text texts (Some rule) (new_is earlier text rule good.0)
    ∙ each_computed (earlier ++ rule ∷ []) texts rules good.1
    ∙ ap (λ rs. Ok rs) (append_assoc earlier (rule ∷ []) rules)

pub spelled_computed : (text : List ℕ) (rules : List Rule) → SpellsRules text rules → rules_of text ≡ Ok rules
spelled_computed text rules spelled = each_computed [] (rule_texts text) rules spelled

none_by : (earlier : List Rule) (text : List ℕ) (found : Option Rule) → new_rule earlier text ≡ found → ((rule : Rule) → SpellsNewRule earlier text rule → ⊥)
    → new_rule earlier text ≡ None
none_by earlier text None is bad = is
none_by earlier text (Some rule) is bad = absurd (bad rule (new_good earlier text rule is))

bad_computed : (earlier : List Rule) (before : List (List ℕ)) (bad : List ℕ) (after : List (List ℕ)) (rules : List Rule) → SpellEach earlier before rules
    → ((rule : Rule) → SpellsNewRule (earlier ++ rules) bad rule → ⊥) → rules_behind earlier (before ++ bad ∷ after) ≡ Err (length (earlier ++ rules) + 1)
bad_computed earlier [] bad after [] good is_bad =
    let none = none_by earlier bad (new_rule earlier bad) refl (λ rule spells. is_bad rule (subst (λ rs. SpellsNewRule rs bad rule) (sym (append-nil earlier)) spells)) in
    next_computed earlier bad after None none ∙ ap (λ (rs : List Rule). Err (length rs + 1)) (sym (append-nil earlier))
bad_computed earlier [] bad after (rule ∷ rules) good is_bad = absurd good
bad_computed earlier (text ∷ before) bad after [] good is_bad = absurd good
bad_computed earlier (text ∷ before) bad after (rule ∷ rules) good is_bad =
    next_computed earlier text (before ++ bad ∷ after) (Some rule) (new_is earlier text rule good.0)
    ∙ bad_computed (earlier ++ rule ∷ []) before bad after rules good.1
    (λ next spells. is_bad next (subst (λ rs. SpellsNewRule rs bad next) (append_assoc earlier (rule ∷ []) rules) spells))
    ∙ ap (λ (rs : List Rule). Err (length rs + 1)) (append_assoc earlier (rule ∷ []) rules)

pub first_bad_computed : (text : List ℕ) (number : ℕ) → IsFirstBad text number → rules_of text ≡ Err number
first_bad_computed text number first =
    ap (rules_behind []) first.parts ∙ bad_computed [] first.before first.bad first.after first.rules first.good first.is_bad ∙ ap (λ (n : ℕ). Err n) (sym first.counted)

same_rules : (read : Result (List Rule) ℕ) (rules others : List Rule) → read ≡ Ok rules → read ≡ Ok others → rules ≡ others
same_rules read rules others is is_too = cc

same_number : (read : Result (List Rule) ℕ) (number other : ℕ) → read ≡ Err number → read ≡ Err other → number ≡ other
same_number read number other is is_too = cc

not_both : (read : Result (List Rule) ℕ) (rules : List Rule) (number : ℕ) → read ≡ Ok rules → read ≡ Err number → ⊥
not_both read rules number is is_too = cc

spelled_by : (text : List ℕ) (rules : List Rule) → rules_of text ≡ Ok rules → IsGood text ⊎ IsBad text → SpellsRules text rules
spelled_by text rules is (inl good) = subst (λ rs. SpellsRules text rs) (same_rules (rules_of text) good.rules rules (spelled_computed text good.rules good.spelled) is) good.spelled
spelled_by text rules is (inr bad) = absurd (not_both (rules_of text) rules bad.number is (first_bad_computed text bad.number bad.first))

pub computed_spelled : (text : List ℕ) (rules : List Rule) → rules_of text ≡ Ok rules → SpellsRules text rules
computed_spelled text rules is = spelled_by text rules is (good_or_bad text)

first_by : (text : List ℕ) (number : ℕ) → rules_of text ≡ Err number → IsGood text ⊎ IsBad text → IsFirstBad text number
first_by text number is (inl good) = absurd (not_both (rules_of text) good.rules number (spelled_computed text good.rules good.spelled) is)
first_by text number is (inr bad) = subst (λ n. IsFirstBad text n) (same_number (rules_of text) bad.number number (first_bad_computed text bad.number bad.first) is) bad.first

pub computed_first_bad : (text : List ℕ) (number : ℕ) → rules_of text ≡ Err number → IsFirstBad text number
computed_first_bad text number is = first_by text number is (good_or_bad text)
