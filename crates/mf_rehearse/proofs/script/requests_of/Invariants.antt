use Rattle.std.proofs.Common.{◌≡◌, ◌++◌, length}
use Rattle.mf_lines.specs.Served.{written}
use Rattle.mf_rehearse.specs.Scripts.{requests_of}
use Rattle.mf_wire.specs.Lines.{lines_of}
use Rattle.mf_rehearse.proofs.script.requests_of.Given as goal

abbrev pub invariant-loop-rest : goal.invariant-loop-rest
invariant-loop-rest l =
    l.requests.items ++ written (requests_of l.fn.caller (lines_of l.rest)) ≡ written (requests_of l.fn.caller (lines_of l.fn.input))

abbrev pub decreases-loop-rest : goal.decreases-loop-rest
decreases-loop-rest l = length l.rest
