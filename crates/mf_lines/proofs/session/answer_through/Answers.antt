use Rattle.std.proofs.Common.{sym, ap, subst, length, arith}
use Rattle.mf_lines.specs.Waiting.{Waiting}
use Rattle.mf_lines.proofs.Reading.{answer_front, ends, front_long, front_short, overruns, read_more, same_line, start, start_line, stops, stops_last, Reading}
use Rattle.mf_lines.proofs.session.answer_through.Goals as goal

pub loop-taken-init : goal.loop-taken-init
loop-taken-init g c = record {
  reading = subst (λ bytes. Reading g.C.Clerk.answers c.args.caps.now c.args.desk.now (g.S.Source.left c.args.source.now) (g.K.Sink.taken c.args.sink.now)
      c.args.desk.now (g.S.Source.left c.args.source.now) (g.K.Sink.taken c.args.sink.now) bytes 0) (sym c.requires.empty)
      (start g.C.Clerk.answers c.args.caps.now c.args.desk.now (g.S.Source.left c.args.source.now) (g.K.Sink.taken c.args.sink.now));
  short = start_line c.args.caps.now.line c.args.buffer.now.bytes c.requires.empty;
  size = c.requires.size;
  source_count = omega arith;
  sink_count = omega arith;
}

pub returns-in-Ok-answer_last-clause-outcome : goal.returns-in-Ok-answer_last-clause-outcome
returns-in-Ok-answer_last-clause-outcome g c =
    let reads = c.in-Ok.ensures.ok in
    ends g.C.Clerk.answers c.args.caps.now _ _ _ _ _ _ _ _
    (read_more g.C.Clerk.answers c.args.caps.now _ _ _ _ _ _ _ _ c.loop-taken.invariant.reading _ _ _ reads)
    _ _ (reads.end c.if-count-eq0.true) (omega (arith, c.if-count-eq0.true, c.loop-taken-test.true))
    (same_line c.args.caps.now.line c.loop-taken.buffer.bytes c.read.new.self.bytes reads.part c.in-Ok.count c.loop-taken.invariant.short reads.joined reads.number c.if-count-eq0.true)
    c.waiting.result.now c.waiting.ensures c.in-Ok-answer_last.ensures.all

pub returns-in-Err-clause-outcome : goal.returns-in-Err-clause-outcome
returns-in-Err-clause-outcome g c =
    let reads = c.in-Ok.ensures.ok in
    stops_last g.C.Clerk.answers c.args.caps.now _ _ _ _ _ _ _ _
    (read_more g.C.Clerk.answers c.args.caps.now _ _ _ _ _ _ _ _ c.loop-taken.invariant.reading _ _ _ reads)
    _ _ (reads.end c.if-count-eq0.true)
    (same_line c.args.caps.now.line c.loop-taken.buffer.bytes c.read.new.self.bytes reads.part c.in-Ok.count c.loop-taken.invariant.short reads.joined reads.number c.if-count-eq0.true)
    c.waiting.result.now c.waiting.ensures c.in-Err.ensures.part

pub returns-in_default-answer_whole-clause-outcome : goal.returns-in_default-answer_whole-clause-outcome
returns-in_default-answer_whole-clause-outcome g c =
    stops g.C.Clerk.answers c.args.caps.now _ _ _ _ _ _ _ _
    (read_more g.C.Clerk.answers c.args.caps.now _ _ _ _ _ _ _ _ c.loop-taken.invariant.reading _ _ _ c.in-Ok.ensures.ok)
    _ _ c.waiting-in-loop-taken.result.now c.waiting-in-loop-taken.ensures c.in_default-answer_whole.ensures.part

pub returns-then-waiting-caps-clause-outcome : goal.returns-then-waiting-caps-clause-outcome
returns-then-waiting-caps-clause-outcome g c =
    let answers = g.C.Clerk.answers in
    let caps = c.args.caps.now in
    let read = read_more answers caps _ _ _ _ _ _ _ _ c.loop-taken.invariant.reading _ _ _ c.in-Ok.ensures.ok in
    let rest = ap (λ (w : Waiting). w.bytes) c.pass.ensures in
    let seen = c.waiting-in-loop-taken in
    let front = c.in-Ok-answer_whole.ensures.all in
    overruns answers caps _ _ _ _ _ _ _ _
    (answer_front answers caps _ _ _ _ _ _ _ _ read _ _ seen.result.now c.pass.new.self.bytes seen.ensures c.in-Ok-answer_whole.passed rest front)
    (front_long answers caps _ _ _ _ _ _ _ _ read _ _ seen.result.now c.pass.new.self.bytes seen.ensures c.in-Ok-answer_whole.passed rest front
    (omega (arith, c.if-waiting-caps.true, ap length c.waiting-in-loop-taken-2.ensures)))

pub loop-taken-preserved : goal.loop-taken-preserved
loop-taken-preserved g c =
    let answers = g.C.Clerk.answers in
    let caps = c.args.caps.now in
    let read = read_more answers caps _ _ _ _ _ _ _ _ c.loop-taken.invariant.reading _ _ _ c.in-Ok.ensures.ok in
    let rest = ap (λ (w : Waiting). w.bytes) c.pass.ensures in
    let size = ap (λ (w : Waiting). w.size) c.pass.ensures in
    let seen = c.waiting-in-loop-taken in
    let front = c.in-Ok-answer_whole.ensures.all in
    record {
      reading = answer_front answers caps _ _ _ _ _ _ _ _ read _ _ seen.result.now c.pass.new.self.bytes seen.ensures c.in-Ok-answer_whole.passed rest front;
      short = front_short answers caps _ _ _ _ _ _ _ _ read _ _ seen.result.now c.pass.new.self.bytes seen.ensures c.in-Ok-answer_whole.passed rest front
          (omega (arith, c.if-waiting-caps.false, ap length c.waiting-in-loop-taken-2.ensures));
      size = omega (arith, size, c.in-Ok.ensures.size, c.loop-taken.invariant.size);
      source_count = omega (arith, c.loop-taken.invariant.source_count, c.in-Ok.ensures.cause.later);
      sink_count = omega (arith, c.loop-taken.invariant.sink_count, c.in-Ok-answer_whole.ensures.cause.later);
    }
