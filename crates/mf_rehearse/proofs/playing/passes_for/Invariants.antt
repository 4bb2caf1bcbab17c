use Rattle.std.proofs.Common.{◌≡◌, All, length}
use Rattle.mf_rehearse.specs.Playing.{IsBlank, IsReady}
use Rattle.mf_rehearse.proofs.playing.passes_for.Given as goal

abbrev pub invariant-loop : goal.invariant-loop
invariant-loop g l =
    (l.home.hub ≡ l.initial.home.hub) × IsBlank l.home.view × (l.home.view.number ≡ l.initial.home.view.number)
    × All (IsReady l.hub) l.passes.items × (length l.passes.items ≡ l.counter)
