-- A front of the line feed comes after the whole reply.
use Rattle.std.proofs.Common.{[], ◌∷◌}
use Rattle.std.proofs.lemmas.Result.{on_err_weaker}
use Rattle.mf_io.proofs.Told.{TakesFront-after}
use Rattle.mf_wire.specs.Lines.{line_feed}
use Rattle.mf_lines.proofs.clerk.send_line.Goals as goal

pub returns-clause-stopped : goal.returns-clause-stopped
returns-clause-stopped g c =
    let taken = g.K.Sink.taken in
    on_err_weaker c.send-2.result
    (TakesFront-after (taken c.args.sink.now) (taken c.send.new.sink) (taken c.send-2.new.sink) c.args.reply.now (line_feed ∷ []) c.in_ok-send.ensures.sent)
    c.send-2.ensures.stopped
