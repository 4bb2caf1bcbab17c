use Rattle.std.proofs.Common.{◌≡◌}
use Rattle.mf_hub.specs.Passes.{Grows, Keeps}
use Rattle.mf_rehearse.proofs.leaving.closed_log.Given as goal

abbrev pub invariant-loop : goal.invariant-loop
invariant-loop g l = (l.home.hub ≡ l.hub) × Grows l.fn.home.view l.home.view × Keeps l.fn.home.view l.home.view
