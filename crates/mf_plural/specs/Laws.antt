-- What holds of every text.
use Rattle.std.specs.Prelude.{◌≡◌, ◌⊎◌, ◌↔◌, ℕ, List, Ok, Err}
use Rattle.mf_plural.specs.Computed.{rules_of}
use Rattle.mf_plural.specs.Grammar.{IsFirstBad, SpellsRules}
use Rattle.mf_plural.specs.declared.rule.Rule.{Rule}

-- the text spells some rules
pub record IsGood (text : List ℕ) : Type 0 where
  pub rules : List Rule
  pub spelled : SpellsRules text rules

-- a rule of the text is the first bad one
pub record IsBad (text : List ℕ) : Type 0 where
  pub number : ℕ
  pub first : IsFirstBad text number

-- each text spells rules or has a first bad one
abbrev pub IsGoodOrBad : Type 0
IsGoodOrBad = (text : List ℕ) → IsGood text ⊎ IsBad text

-- and not both
abbrev pub IsNotBoth : Type 0
IsNotBoth = (text : List ℕ) → IsGood text → IsBad text → ⊥

-- it spells at most one list of rules
abbrev pub IsSpelledOnce : Type 0
IsSpelledOnce = (text : List ℕ) (rules others : List Rule) → SpellsRules text rules → SpellsRules text others → rules ≡ others

-- and the first bad rule has one number
abbrev pub IsNumberedOnce : Type 0
IsNumberedOnce = (text : List ℕ) (number other : ℕ) → IsFirstBad text number → IsFirstBad text other → number ≡ other

-- the rules that are computed are those that the text spells
abbrev pub AreRulesComputed : Type 0
AreRulesComputed = (text : List ℕ) (rules : List Rule) → (rules_of text ≡ Ok rules) ↔ SpellsRules text rules

-- and the number that is computed is that of its first bad rule
abbrev pub IsNumberComputed : Type 0
IsNumberComputed = (text : List ℕ) (number : ℕ) → (rules_of text ≡ Err number) ↔ IsFirstBad text number
