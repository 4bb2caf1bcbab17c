use Rattle.std.proofs.Common.{◌≡◌}
use Rattle.mf_bench_hub.proofs.calls.pin_many.Given as goal

abbrev pub invariant-loop : goal.invariant-loop
invariant-loop g l = l.pass.hub ≡ l.hub
