use Rattle.std.proofs.Common.{◌≡◌}
use Rattle.mf_rehearse.specs.Playing.{IsBlank}
use Rattle.mf_rehearse.proofs.playing.next_pass.Given as goal

abbrev pub invariant-loop : goal.invariant-loop
invariant-loop g l = (l.home.hub ≡ l.initial.home.hub) × IsBlank l.home.view × (l.home.view.number ≡ l.initial.home.view.number)
