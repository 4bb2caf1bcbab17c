use Rattle.std.proofs.Common.{◌≡◌}
use Rattle.mf_hub_rows.proofs.asking.publish_beside.Given as goal

abbrev pub invariant-loop : goal.invariant-loop
invariant-loop g l = l.pass.hub ≡ l.hub
