use Rattle.std.proofs.Common.{◌∙◌, decimal}
use Rattle.mf_service.proofs.Fronts.{stopped_after}
use Rattle.mf_service.proofs.summary.send_number.Goals as goal

pub returns-clause-stopped : goal.returns-clause-stopped
returns-clause-stopped g c =
    stopped_after (g.K.Sink.taken c.args.sink.now) (g.K.Sink.taken c.send.new.sink) (g.K.Sink.taken c.send-2.new.sink) c.args.piece.now
    c.as_bytes.result.now (decimal c.args.number) c.send-2.result c.in_ok-send.ensures.sent (c.as_bytes.ensures.value ∙ c.format.ensures.text)
    c.send-2.ensures.stopped
