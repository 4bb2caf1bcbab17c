use Rattle.std.proofs.Common.{◌≡◌, ◌+◌, All, IfOk, length}
use Rattle.mf_rehearse.specs.Leaving.{Left}
use Rattle.mf_rehearse.specs.Playing.{HasPlayed}
use Rattle.mf_rehearse.specs.Scripts.{callers_in}
use Rattle.mf_wire.specs.Lines.{lines_of}
use Rattle.mf_rehearse.proofs.leaving.replies_to_all.Given as goal

abbrev pub invariant-loop-next : goal.invariant-loop-next
invariant-loop-next g l =
    (l.home.hub ≡ l.fn.home.hub) × Left (lines_of l.input) l.home.view l.kept.items
    × All (λ one. IfOk one (HasPlayed l.hub (lines_of l.input))) l.played.items
    × (length l.kept.items + length l.played.items ≡ callers_in (lines_of l.input))

abbrev pub decreases-loop-next : goal.decreases-loop-next
decreases-loop-next g l = l.played.len
