use Rattle.std.proofs.Common.{[], ◌∷◌, None, Some, refl, arith}
use Rattle.mf_hub.proofs.Seats.{after_done, core_step, grows_turned, has_turned, may_done, within_taken}
use Rattle.mf_hub.proofs.hub.Hub.finish.Goals as goal

pub end-requires-clause-core : goal.end-requires-clause-core
end-requires-clause-core g c = let t = c.take-store in
    core_step c.args.seat.now t.new.seat t.result t.ensures.teaches t.ensures.taken t.ensures.view c.done.new.self c.done.ensures.step

pub end-requires-clause-may : goal.end-requires-clause-may
end-requires-clause-may g c = let t = c.take-store in
    may_done c.args.seat.now t.new.seat t.result t.ensures.teaches t.ensures.taken t.ensures.view c.args.number (Some c.args.spent) c.requires.seat c.done.new.self
    c.args.spent refl (within_taken c.args.seat.now t.new.seat t.result t.ensures.teaches t.ensures.taken t.ensures.view c.args.spent.0 c.requires.message.within)
    c.done.ensures.done c.done.ensures.ready

pub returns-clause-grows : goal.returns-clause-grows
returns-clause-grows g c = let t = c.take-store in let v = c.args.seat.now.view in
    grows_turned c.args.seat.now t.new.seat t.result t.ensures.teaches t.ensures.taken t.ensures.view None (c.args.spent ∷ []) v.given v.heard c.end.new.seat (omega arith)
    (after_done c.args.seat.now t.new.seat t.result t.ensures.teaches t.ensures.taken t.ensures.view c.end.new.seat c.args.spent c.requires.seat.claim_is c.end.ensures.view)

pub returns-clause-served : goal.returns-clause-served
returns-clause-served g c = let t = c.take-store in let v = c.args.seat.now.view in
    has_turned c.args.seat.now t.new.seat t.result t.ensures.teaches t.ensures.taken t.ensures.view None (c.args.spent ∷ []) v.given v.heard c.end.new.seat (omega arith)
    (after_done c.args.seat.now t.new.seat t.result t.ensures.teaches t.ensures.taken t.ensures.view c.end.new.seat c.args.spent c.requires.seat.claim_is c.end.ensures.view)
    c.args.spent (0, omega arith, refl)
