use Rattle.std.proofs.Common.{◌≡◌, ◌≤◌, length}
use Rattle.mf_rehearse.specs.Scripts.{greatest}
use Rattle.mf_wire.specs.Lines.{lines_of}
use Rattle.mf_rehearse.proofs.script.callers_in.Given as goal

abbrev pub invariant-loop-rest : goal.invariant-loop-rest
invariant-loop-rest l = (greatest l.most (lines_of l.rest) ≡ greatest 2 (lines_of l.fn.input)) × (l.most ≤ 8)

abbrev pub decreases-loop-rest : goal.decreases-loop-rest
decreases-loop-rest l = length l.rest
