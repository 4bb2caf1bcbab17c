use Rattle.std.proofs.Common.{◌≡◌}
use Rattle.mf_hub_rows.proofs.crowd.make_passes.Given as goal

abbrev pub invariant-loop-made : goal.invariant-loop-made
invariant-loop-made g l = l.from.hub ≡ l.hub
