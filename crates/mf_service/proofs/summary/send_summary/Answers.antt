use Rattle.mf_io.specs.Known.{TakesFront}
use Rattle.mf_lines.specs.Served.{ended}
use Rattle.mf_serve.specs.Serving.{tally_of}
use Rattle.mf_service.proofs.Fronts.{on_err, sends_all, stops_first, stops_last, stops_second, stops_third}
use Rattle.mf_service.specs.Summaries.{summary}
use Rattle.mf_service.proofs.summary.send_summary.Goals as goal

pub returns-in_err-send_number-clause-stopped : goal.returns-in_err-send_number-clause-stopped
returns-in_err-send_number-clause-stopped g c =
    let a = g.K.Sink.taken c.args.sink.now in
    let b = g.K.Sink.taken c.send_number.new.sink in
    let t = tally_of c.args.served.now in
    on_err c.from_residual.result (TakesFront a b (ended (summary t))) (stops_first t a b b b b c.in_err-send_number.ensures.stopped)

pub returns-in_err-send_number-2-clause-stopped : goal.returns-in_err-send_number-2-clause-stopped
returns-in_err-send_number-2-clause-stopped g c =
    let a = g.K.Sink.taken c.args.sink.now in
    let b = g.K.Sink.taken c.send_number.new.sink in
    let d = g.K.Sink.taken c.send_number-2.new.sink in
    let t = tally_of c.args.served.now in
    on_err c.from_residual-in_err-send_number-2.result (TakesFront a d (ended (summary t)))
    (stops_second t a b d d d c.in_ok-send_number.ensures.sent c.in_err-send_number-2.ensures.stopped)

pub returns-in_err-send_number-3-clause-stopped : goal.returns-in_err-send_number-3-clause-stopped
returns-in_err-send_number-3-clause-stopped g c =
    let a = g.K.Sink.taken c.args.sink.now in
    let b = g.K.Sink.taken c.send_number.new.sink in
    let d = g.K.Sink.taken c.send_number-2.new.sink in
    let e = g.K.Sink.taken c.send_number-3.new.sink in
    let t = tally_of c.args.served.now in
    on_err c.from_residual-in_err-send_number-3.result (TakesFront a e (ended (summary t)))
    (stops_third t a b d e e c.in_ok-send_number.ensures.sent c.in_ok-send_number-2.ensures.sent c.in_err-send_number-3.ensures.stopped)

pub returns-clause-sent : goal.returns-clause-sent
returns-clause-sent g c =
    sends_all (tally_of c.args.served.now) (g.K.Sink.taken c.args.sink.now) (g.K.Sink.taken c.send_number.new.sink)
    (g.K.Sink.taken c.send_number-2.new.sink) (g.K.Sink.taken c.send_number-3.new.sink) (g.K.Sink.taken c.send.new.sink) c.send.result
    c.in_ok-send_number.ensures.sent c.in_ok-send_number-2.ensures.sent c.in_ok-send_number-3.ensures.sent c.send.ensures.sent

pub returns-clause-stopped : goal.returns-clause-stopped
returns-clause-stopped g c =
    stops_last (tally_of c.args.served.now) (g.K.Sink.taken c.args.sink.now) (g.K.Sink.taken c.send_number.new.sink)
    (g.K.Sink.taken c.send_number-2.new.sink) (g.K.Sink.taken c.send_number-3.new.sink) (g.K.Sink.taken c.send.new.sink) c.send.result
    c.in_ok-send_number.ensures.sent c.in_ok-send_number-2.ensures.sent c.in_ok-send_number-3.ensures.sent c.send.ensures.stopped
