use Rattle.mf_core.specs.Running.{IsWhole}
use Rattle.mf_core_rows.proofs.full.told_last.Given as goal

abbrev pub invariant-loop : goal.invariant-loop
invariant-loop l = IsWhole l.world
