use Rattle.std.proofs.Common.{◌≤◌, length}
use Rattle.mf_io.proofs.Sending.{Sending}
use Rattle.mf_io.proofs.whole.send.Given as goal

abbrev pub invariant-loop-rest : goal.invariant-loop-rest
invariant-loop-rest g l =
    Sending (g.K.Sink.taken l.initial.sink) (g.K.Sink.taken l.sink) l.piece l.rest × (g.K.Sink.faults l.initial.sink ≤ g.K.Sink.faults l.sink)

abbrev pub decreases-loop-rest : goal.decreases-loop-rest
decreases-loop-rest g l = length l.rest
