use Rattle.std.proofs.Common.{◌≤◌, length, take}
use Rattle.mf_lines.specs.Cut.{IsOneLine}
use Rattle.mf_lines.specs.Served.{Served}
use Rattle.mf_lines.proofs.Answering.{Going}
use Rattle.mf_lines.proofs.lines.answer_lines.Given as goal

-- some lines are answered, the first known bytes of the rest hold no line feed, and no fault is forgotten
abbrev pub invariant-loop-end : goal.invariant-loop-end
invariant-loop-end g l = record {
  going : Going (Served g.C.Clerk.answers) l.initial.desk l.desk (g.K.Sink.taken l.initial.sink) (g.K.Sink.taken l.sink) l.most l.bytes l.rest;
  within : l.known ≤ length l.rest;
  one : IsOneLine (take l.known l.rest);
  count : g.K.Sink.faults l.initial.sink ≤ g.K.Sink.faults l.sink;
}

abbrev pub decreases-loop-end : goal.decreases-loop-end
decreases-loop-end g l = length l.rest
