use Rattle.std.proofs.Common.{◌≡◌}
use Rattle.mf_hub_rows.proofs.asking.ask_in_order.Given as goal

abbrev pub invariant-loop-index : goal.invariant-loop-index
invariant-loop-index g l = l.pass.hub ≡ l.hub
