use Rattle.std.proofs.Common.{◌≡◌, ◌-◌}
use Rattle.mf_bench_hub.proofs.crowd.fill.Given as goal

abbrev pub invariant-loop-from : goal.invariant-loop-from
invariant-loop-from g l = l.home.hub ≡ l.hub

abbrev pub decreases-loop-from : goal.decreases-loop-from
decreases-loop-from g l = l.count - l.from
