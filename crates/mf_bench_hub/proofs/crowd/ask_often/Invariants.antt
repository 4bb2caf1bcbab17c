use Rattle.std.proofs.Common.{◌≡◌, All}
use Rattle.mf_hub_rows.specs.Crowds.{IsOf}
use Rattle.mf_bench_hub.proofs.crowd.ask_often.Given as goal

abbrev pub invariant-loop : goal.invariant-loop
invariant-loop g l = (l.home.hub ≡ l.hub) × All (IsOf l.hub) l.passes.items
