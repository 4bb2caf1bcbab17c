use Rattle.mf_core.specs.Running.{IsWhole}
use Rattle.mf_core_rows.proofs.walk.walk_in.Given as goal

abbrev pub invariant-loop : goal.invariant-loop
invariant-loop l = IsWhole l.world
