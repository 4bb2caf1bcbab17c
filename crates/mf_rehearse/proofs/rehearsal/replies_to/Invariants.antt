use Rattle.std.proofs.Common.{◌≡◌, List, length}
use Rattle.mf_rehearse.specs.Leaving.{Matches}
use Rattle.mf_rehearse.specs.Played.{replies_of, Part}
use Rattle.mf_rehearse.proofs.rehearsal.replies_to.Given as goal

abbrev pub invariant-loop-rest : goal.invariant-loop-rest
invariant-loop-rest l =
    (parts : List Part) → Matches l.fn.kept parts → (rest : List Part) × Matches l.rest rest × (replies_of parts l.caller ≡ replies_of rest l.caller)

abbrev pub decreases-loop-rest : goal.decreases-loop-rest
decreases-loop-rest l = length l.rest
