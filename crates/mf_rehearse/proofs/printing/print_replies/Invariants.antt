use Rattle.std.proofs.Common.{◌≡◌, ◌++◌, length}
use Rattle.std.specs.List.{flat_map}
use Rattle.mf_rehearse.specs.Prints.{tagged}
use Rattle.mf_wire.specs.Lines.{lines_of}
use Rattle.mf_rehearse.proofs.printing.print_replies.Given as goal

abbrev pub invariant-loop-rest : goal.invariant-loop-rest
invariant-loop-rest l =
    l.output.items ++ flat_map (tagged l.caller) (lines_of l.rest) ≡ l.initial.output.items ++ flat_map (tagged l.caller) (lines_of l.fn.replies)

abbrev pub decreases-loop-rest : goal.decreases-loop-rest
decreases-loop-rest l = length l.rest
