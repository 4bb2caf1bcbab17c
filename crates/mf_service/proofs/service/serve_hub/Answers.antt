use Rattle.std.proofs.Common.{OnErr, OnOk, subst}
use Rattle.std.specs.Io.KnownBytes.{Appends}
use Rattle.mf_io.specs.Faults.{Rose}
use Rattle.mf_io.specs.Known.{TakesFront}
use Rattle.mf_io.specs.declared.statuses.Status.TheVariants.{Ended, ListenFault}
use Rattle.mf_lines.specs.Served.{ended}
use Rattle.mf_serve.specs.Serving.{tally_of}
use Rattle.mf_serve.specs.Tallies.{sessions}
use Rattle.mf_service.proofs.Ends.{ended_is, front_of, until}
use Rattle.mf_service.specs.Summaries.{summary}
use Rattle.mf_service.proofs.service.serve_hub.Goals as goal

pub returns-in-ListenFault-default-clause-serves : goal.returns-in-ListenFault-default-clause-serves
returns-in-ListenFault-default-clause-serves g c =
    let served = c.serve_over-served in
    let a = g.K.Sink.taken c.args.sink.now in
    let b = g.K.Sink.taken c.write_summary-written.new.sink in
    until c.args.limit (g.L.Listener.left c.args.listener.now) (g.L.Listener.left served.new.listener) a b served.result served.ensures.given
    served.ensures.stops ListenFault (TakesFront a b) c.in-ListenFault-default.is-0
    (front_of a b (ended (summary (tally_of served.result))) c.write_summary-written.result c.write_summary-written.ensures.sent
    c.write_summary-written.ensures.stopped)

pub returns-in_default-Ok : goal.returns-in_default-Ok
returns-in_default-Ok g c =
    let served = c.serve_over-served in
    let a = g.K.Sink.taken c.args.sink.now in
    let b = g.K.Sink.taken c.write_summary-written.new.sink in
    let line = ended (summary (tally_of served.result)) in
    let left = g.L.Listener.left c.args.listener.now in
    let stop = ended_is c.args.limit (sessions (tally_of served.result)) left served.result.status served.ensures.stops c.in_default-Ok.not-ListenFault-0 in
    record {
      serves =
          until c.args.limit left (g.L.Listener.left served.new.listener) a b served.result served.ensures.given served.ensures.stops Ended
          (Appends a b) stop (subst (λ r. OnOk r (Appends a b line)) c.in_default-Ok.is-1 c.write_summary-written.ensures.sent);
      listen_fault = λ is. cc;
      write_fault = λ is. cc;
      listener_count = served.ensures.count;
      sink_count = c.write_summary-written.ensures.cause.later;
    }

pub returns-in-Ok : goal.returns-in-Ok
returns-in-Ok g c =
    let served = c.serve_over-served in
    let a = g.K.Sink.taken c.args.sink.now in
    let b = g.K.Sink.taken c.write_summary-written.new.sink in
    let line = ended (summary (tally_of served.result)) in
    let left = g.L.Listener.left c.args.listener.now in
    let stop = ended_is c.args.limit (sessions (tally_of served.result)) left served.result.status served.ensures.stops c.in_default-Err.not-ListenFault-0 in
    record {
      serves =
          until c.args.limit left (g.L.Listener.left served.new.listener) a b served.result served.ensures.given served.ensures.stops Ended
          (TakesFront a b) stop (subst (λ r. OnErr r (TakesFront a b line)) c.in_default-Err.is-1 c.write_summary-written.ensures.stopped);
      listen_fault = λ is. cc;
      write_fault =
          λ is.
          subst (λ r. OnErr r (Rose (g.K.Sink.faults c.args.sink.now) (g.K.Sink.faults c.write_summary-written.new.sink))) c.in_default-Err.is-1
          c.write_summary-written.ensures.cause.cause;
      listener_count = served.ensures.count;
      sink_count = c.write_summary-written.ensures.cause.later;
    }
