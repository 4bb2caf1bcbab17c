use Rattle.mf_core.specs.Running.{IsWhole}
use Rattle.mf_bench_callers.proofs.events.begin.Given as goal

abbrev pub invariant-loop-caller : goal.invariant-loop-caller
invariant-loop-caller l = IsWhole l.world
