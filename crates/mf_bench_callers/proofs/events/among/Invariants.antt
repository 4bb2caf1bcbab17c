use Rattle.mf_core.specs.Running.{IsWhole}
use Rattle.mf_bench_callers.proofs.events.among.Given as goal

abbrev pub invariant-loop-number : goal.invariant-loop-number
invariant-loop-number l = IsWhole l.world
