use Rattle.std.proofs.Common.{◌+◌, ◌-◌, ◌≤◌}
use Rattle.mf_lines.specs.Cut.{IsLine}
use Rattle.mf_lines.proofs.Reading.{Reading}
use Rattle.mf_lines.proofs.session.answer_through.Given as goal

-- the whole lines that were read are answered, what waits is the front of a line, and no fault is forgotten
abbrev pub invariant-loop-taken : goal.invariant-loop-taken
invariant-loop-taken g l = record {
  reading : Reading g.C.Clerk.answers l.caps l.initial.desk (g.S.Source.left l.initial.source) (g.K.Sink.taken l.initial.sink)
      l.desk (g.S.Source.left l.source) (g.K.Sink.taken l.sink) l.buffer.bytes l.taken;
  short : IsLine l.caps.line l.buffer.bytes;
  size : l.caps.line + 4096 ≤ l.buffer.size;
  source_count : g.S.Source.faults l.initial.source ≤ g.S.Source.faults l.source;
  sink_count : g.K.Sink.faults l.initial.sink ≤ g.K.Sink.faults l.sink;
}

abbrev pub decreases-loop-taken : goal.decreases-loop-taken
decreases-loop-taken g l = l.caps.input - l.taken
