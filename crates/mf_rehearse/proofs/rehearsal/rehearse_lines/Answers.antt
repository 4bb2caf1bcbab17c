use Rattle.mf_wire.specs.Lines.{lines_of}
use Rattle.mf_rehearse.proofs.Departing.{all_rehearsed}
use Rattle.mf_rehearse.proofs.rehearsal.rehearse_lines.Goals as goal

pub returns : goal.returns
returns g c =
    all_rehearsed (lines_of c.args.input.now) c.replies_to_all.new.home.view c.closed_log-log.result c.in_ok-kept.kept.items c.deref.result.now
    c.callers_in.result c.print.result c.in_ok-kept.ensures.left c.closed_log-log.ensures c.deref.ensures.value c.callers_in.ensures.most c.print.ensures
