use Rattle.mf_rehearse.proofs.Scripted.{part, short, whole}
use Rattle.mf_rehearse.proofs.rehearsal.rehearse.Goals as goal

pub rehearse_lines-requires-after_bounds : goal.rehearse_lines-requires-after_bounds
rehearse_lines-requires-after_bounds g c κs within =
    short (g.S.Source.left c.args.source.now) (g.S.Source.left c.read_lines.new.source) c.in-Ok.input.items c.in-Ok.ensures.whole c.deref.result.now
    c.deref.ensures.value

pub returns-in-Ok-write-clause-rehearses : goal.returns-in-Ok-write-clause-rehearses
returns-in-Ok-write-clause-rehearses g c =
    whole (g.S.Source.left c.args.source.now) (g.S.Source.left c.read_lines.new.source) c.in-Ok.input.items c.in-Ok.ensures.whole c.deref.result.now
    c.in-Ok-rehearse_lines.output.items c.deref-in-Ok-rehearse_lines.result.now c.deref.ensures.value c.in-Ok-rehearse_lines.ensures
    c.deref-in-Ok-rehearse_lines.ensures.value (g.K.Sink.taken c.args.sink.now) (g.K.Sink.taken c.write.new.sink) c.in-Ok-write.ensures.sent

pub returns-in-Ok-rehearse_lines-clause-rehearses : goal.returns-in-Ok-rehearse_lines-clause-rehearses
returns-in-Ok-rehearse_lines-clause-rehearses g c =
    part (g.S.Source.left c.args.source.now) (g.S.Source.left c.read_lines.new.source) c.in-Ok.input.items c.in-Ok.ensures.whole c.deref.result.now
    c.in-Ok-rehearse_lines.output.items c.deref-in-Ok-rehearse_lines.result.now c.deref.ensures.value c.in-Ok-rehearse_lines.ensures
    c.deref-in-Ok-rehearse_lines.ensures.value (g.K.Sink.taken c.args.sink.now) (g.K.Sink.taken c.write.new.sink) c.in-Err-write.ensures.stopped
