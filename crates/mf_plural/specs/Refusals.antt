-- Why a text has no rules.
use Rattle.std.specs.Prelude.{ℕ}
use Rattle.mf_plural.specs.declared.error.RuleError.{RuleError}
use Rattle.mf_plural.specs.declared.error.RuleError.TheVariants.{BadRule, OutOfMemory}

-- what holds of the number of a bad rule; nothing is said of want of memory
abbrev pub IfBadRule : (ℕ → Type 0) → RuleError → Type 0
IfBadRule P (BadRule number) = P number
IfBadRule P OutOfMemory = Unit {0}
