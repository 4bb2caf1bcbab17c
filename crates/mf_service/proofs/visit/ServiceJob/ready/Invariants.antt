use Rattle.std.proofs.Common.{◌≡◌, None}
use Rattle.mf_service.proofs.visit.ServiceJob.ready.Given as goal

abbrev pub invariant-loop : goal.invariant-loop
invariant-loop g l =
    (l.home.pass.hub ≡ l.initial.home.pass.hub) × (l.home.pass.view.pin ≡ None) × (l.home.tally ≡ l.initial.home.tally)
