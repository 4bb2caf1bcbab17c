-- For private clauses: what is said of a source, computed.
use Rattle.std.specs.Prelude.{ℕ, List}
use Rattle.mf_tree.specs.Canonical.{canonical}
use Rattle.mf_plan.specs.declared.plan.Plan.{Plan}
use Rattle.mf_plan.specs.declared.plan.Plan.TheVariants as plan
use Rattle.mf_plan.specs.Computed.{plan_of}
use Rattle.mf_lint.specs.declared.linting.Linted.{Linted}
use Rattle.mf_lint.specs.declared.linting.Linted.TheVariants.{Valid, Invalid}

-- what there is to say of what a source compiles to
abbrev pub lint_from : Plan → Linted
lint_from (plan.Valid message) = Valid (canonical message)
lint_from (plan.Invalid faults) = Invalid faults

-- what there is to say of a source
abbrev pub lint_of : List ℕ → Linted
lint_of source = lint_from (plan_of source)
