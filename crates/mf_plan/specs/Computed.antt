-- For private clauses: what a source compiles to, computed.
use Rattle.std.specs.Prelude.{ℕ, List, [], ◌∷◌, length, nat_le, codes, Option, Some, None, if◌then◌else◌}
use Rattle.mf_tree.specs.declared.message.Message.{Message}
use Rattle.mf_tree.specs.declared.fault.Kind.{Kind}
use Rattle.mf_tree.specs.declared.fault.Kind.TheVariants as kind
use Rattle.mf_tree.specs.declared.fault.Fault.{Fault}
use Rattle.mf_tree.specs.Compiled.{most_declarations}
use Rattle.mf_tree.specs.Faults.{faults}
use Rattle.mf_parse.specs.Computed.{message_of}
use Rattle.mf_plan.specs.declared.plan.Plan.{Plan}
use Rattle.mf_plan.specs.declared.plan.Plan.TheVariants.{Invalid, Valid}

-- what has one error alone
abbrev pub invalid : Kind → List ℕ → Plan
invalid kind of = Invalid (record { kind = kind; of = of } ∷ [])

-- a message with these errors
abbrev pub with_faults : Message → List Fault → Plan
with_faults message [] = Valid message
with_faults message (fault ∷ faults) = Invalid (fault ∷ faults)

-- what a message compiles to
abbrev pub checked : Message → Plan
checked message =
    if nat_le (length message.declarations) most_declarations then with_faults message (faults message) else invalid kind.Limit (codes "declarations")

abbrev pub plan_from : Option Message → Plan
plan_from None = invalid kind.Syntax []
plan_from (Some message) = checked message

-- what a source compiles to
abbrev pub plan_of : List ℕ → Plan
plan_of source = plan_from (message_of source)
