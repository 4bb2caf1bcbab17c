use Rattle.std.proofs.Common.{◌+◌, [], None, Some, arith}
use Rattle.mf_hub.proofs.Seats.{after_quit, core_step, grows_turned, may_quit}
use Rattle.mf_hub.proofs.hub.Hub.give_back.Goals as goal

pub end-requires-clause-core : goal.end-requires-clause-core
end-requires-clause-core g c = let t = c.take-store in
    core_step c.args.seat.now t.new.seat t.result t.ensures.teaches t.ensures.taken t.ensures.view c.quit.new.self c.quit.ensures.step

pub end-requires-clause-may : goal.end-requires-clause-may
end-requires-clause-may g c = let t = c.take-store in
    may_quit c.args.seat.now t.new.seat t.result t.ensures.teaches t.ensures.taken t.ensures.view c.args.number (Some c.args.ticket) c.requires.seat c.quit.new.self
    c.quit.ensures.quits

pub returns-clause-grows : goal.returns-clause-grows
returns-clause-grows g c = let t = c.take-store in let v = c.args.seat.now.view in
    grows_turned c.args.seat.now t.new.seat t.result t.ensures.teaches t.ensures.taken t.ensures.view None [] (v.given + 1) v.heard c.end.new.seat (omega arith)
    (after_quit c.args.seat.now t.new.seat t.result t.ensures.teaches t.ensures.taken t.ensures.view c.end.new.seat c.end.ensures.view)
