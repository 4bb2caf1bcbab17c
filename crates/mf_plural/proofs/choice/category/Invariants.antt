-- No condition so far holds.
use Rattle.std.proofs.Common.{◌≡◌, drop}
use Rattle.mf_plural.specs.Choice.{first_category}
use Rattle.mf_plural.proofs.choice.category.Given as goal

abbrev pub invariant-loop-rule : goal.invariant-loop-rule
invariant-loop-rule l = first_category l.rules l.operands ≡ first_category (drop l.rule-index l.rules) l.operands
