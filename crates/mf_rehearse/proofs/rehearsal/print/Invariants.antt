use Rattle.std.proofs.Common.{◌≡◌, ◌-◌, ◌≤◌, List}
use Rattle.mf_rehearse.specs.Leaving.{AreLines, Matches}
use Rattle.mf_rehearse.specs.Played.{replies_of, Part}
use Rattle.mf_rehearse.specs.Prints.{replies_print}
use Rattle.mf_rehearse.proofs.rehearsal.print.Given as goal

abbrev pub invariant-loop-caller : goal.invariant-loop-caller
invariant-loop-caller l =
    ((parts : List Part) → Matches l.kept parts → AreLines parts → l.output.items ≡ replies_print (replies_of parts) l.caller) × (l.caller ≤ l.callers)

abbrev pub decreases-loop-caller : goal.decreases-loop-caller
decreases-loop-caller l = l.callers - l.caller
