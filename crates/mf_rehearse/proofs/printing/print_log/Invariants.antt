use Rattle.std.proofs.Common.{◌≡◌, ◌+◌, ◌-◌, ◌≤◌, ◌++◌, drop, length}
use Rattle.mf_rehearse.specs.Prints.{log_print}
use Rattle.mf_rehearse.proofs.printing.print_log.Given as goal

abbrev pub invariant-loop-index : goal.invariant-loop-index
invariant-loop-index l =
    (l.output.items ++ log_print (l.index + 1) (drop l.index l.log) ≡ l.initial.output.items ++ log_print 1 l.log) × (l.index ≤ length l.log)

abbrev pub decreases-loop-index : goal.decreases-loop-index
decreases-loop-index l = length l.log - l.index
