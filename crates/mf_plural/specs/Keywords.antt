-- The keywords of rules.
use Rattle.std.specs.Prelude.{ℕ, Bool, ◌==◌, List}
use Rattle.std.specs.List.{list_any}
use Rattle.mf_plural.specs.declared.rule.Category.{Category}
use Rattle.mf_plural.specs.declared.rule.Category.TheVariants.{Zero, One, Two, Few, Many, Other}
use Rattle.mf_plural.specs.declared.rule.Rule.{Rule}

-- each category has a rank of its own
abbrev pub rank : Category → ℕ
rank Zero = 0
rank One = 1
rank Two = 2
rank Few = 3
rank Many = 4
rank Other = 5

abbrev pub is_same : Category → Category → Bool
is_same category other = rank category == rank other

-- one of the rules has the keyword
abbrev pub has_keyword : Category → List Rule → Bool
has_keyword keyword rules = list_any (λ rule. is_same keyword rule.keyword) rules
