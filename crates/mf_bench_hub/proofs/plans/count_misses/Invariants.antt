use Rattle.std.proofs.Common.{◌≡◌}
use Rattle.mf_bench_hub.proofs.plans.count_misses.Given as goal

abbrev pub invariant-loop-round : goal.invariant-loop-round
invariant-loop-round g l = l.pass.hub ≡ l.hub
