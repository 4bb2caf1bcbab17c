use Rattle.mf_history.proofs.Counted.{serve_one}
use Rattle.mf_history.proofs.served.serve.Goals as goal

pub returns : goal.returns
returns c =
    serve_one c.args.served.now c.insert.new.self c.args.index c.in_ok-insert.field-0 c.in_ok-insert.ensures.added c.in_ok-insert.ensures.updates c.in_ok-insert.ensures.len
