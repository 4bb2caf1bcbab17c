use Rattle.mf_bench_callers.specs.Entries.{IsUnclaimed}
use Rattle.mf_bench_callers.proofs.entries.ready.Given as goal

abbrev pub invariant-loop-index : goal.invariant-loop-index
invariant-loop-index l = IsUnclaimed l.fn.edition l.flights
