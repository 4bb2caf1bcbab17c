-- What holds of every source.
use Rattle.std.specs.Prelude.{◌≡◌, ◌↔◌, ℕ, List}
use Rattle.mf_tree.specs.Compiled.{Compilation, Compiled}
use Rattle.mf_plan.specs.declared.plan.Plan.{Plan}
use Rattle.mf_plan.specs.Computed.{plan_of}
use Rattle.mf_plan.specs.Plans.{CompilesTo}

-- a source compiles to what is computed
abbrev pub IsCompiled : Type 0
IsCompiled = (source : List ℕ) (plan : Plan) → (plan ≡ plan_of source) ↔ CompilesTo source plan

-- a source compiles to one thing
abbrev pub CompilesToOne : Type 0
CompilesToOne = (source : List ℕ) (one other : Compilation) → Compiled source one → Compiled source other → one ≡ other
