-- What a plan says, in the words of the definition of what a source compiles to.
use Rattle.std.specs.Prelude.{ℕ, List}
use Rattle.mf_tree.specs.Compiled as compiled
use Rattle.mf_tree.specs.Compiled.{Compilation, Compiled}
use Rattle.mf_tree.specs.Nodes.{IsMessage}
use Rattle.mf_plan.specs.declared.plan.Plan.{Plan}
use Rattle.mf_plan.specs.declared.plan.Plan.TheVariants.{Invalid, Valid}

abbrev pub compilation : Plan → Compilation
compilation (Invalid faults) = compiled.Invalid faults
compilation (Valid message) = compiled.Valid message

-- the source compiles to what the plan says
abbrev pub CompilesTo : List ℕ → Plan → Type 0
CompilesTo source plan = Compiled source (compilation plan)

-- the message of a plan, if it has one, is a node
abbrev pub IsNode : Plan → Type 0
IsNode (Invalid faults) = Unit {0}
IsNode (Valid message) = IsMessage message
