use Rattle.std.proofs.Common.{◌≡◌}
use Rattle.mf_bench_hub.proofs.plans.ask_each.Given as goal

abbrev pub invariant-loop-step : goal.invariant-loop-step
invariant-loop-step g l = l.pass.hub ≡ l.hub
