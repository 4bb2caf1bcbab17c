use Rattle.std.proofs.Common.{◌∙◌, [], max, length, ap, refl, sym, subst}
use Rattle.mf_hub.specs.Passes.{Grows, PassState}
use Rattle.mf_hub.proofs.Seats.{after_hear, grown, grows_turned, log_turned, low_max, may_hear, none_claim, pass_of, pin_turned, seat_of, seat_turned, tells}
use Rattle.mf_hub.proofs.Turned.{core_same}
use Rattle.mf_hub.proofs.hub.Hub.stat.Goals as goal

pub end-requires-clause-core : goal.end-requires-clause-core
end-requires-clause-core g c = let t = c.take-store in
    core_same c.pass.inside.seat t.new.seat t.result t.ensures.teaches t.ensures.taken t.ensures.view t.result (refl, refl)

pub end-requires-clause-may : goal.end-requires-clause-may
end-requires-clause-may g c = let t = c.take-store in
    may_hear c.pass.inside.seat t.new.seat t.result t.ensures.teaches t.ensures.taken t.ensures.view c.stat-stat.result.quits c.stat-stat.ensures.given

pub invariant_of-pass : goal.invariant_of-pass
invariant_of-pass g c = let t = c.take-store in let i = c.pass.inside in let v = i.seat.view in let u = c.end.new.seat in
    let quits = c.stat-stat.result.quits in
    let same = after_hear c.pass.inside.seat t.new.seat t.result t.ensures.teaches t.ensures.taken t.ensures.view u quits c.end.ensures.view in
    let low = low_max v.heard quits in
    let seat = seat_turned c.pass.inside.seat t.new.seat t.result t.ensures.teaches t.ensures.taken t.ensures.view v.claim [] v.given (max v.heard quits) u low same i.number _ (seat_of i.seat i.number i.pinned c.pass.invariant.0) c.end.ensures.free in
    let grows = grows_turned c.pass.inside.seat t.new.seat t.result t.ensures.teaches t.ensures.taken t.ensures.view v.claim [] v.given (max v.heard quits) u low same in (
      pass_of i.seat u i.number i.pinned c.pass.invariant.0 (none_claim c.pass.invariant.0.claim seat) (grown v u.view grows)
          (pin_turned c.pass.inside.seat t.new.seat t.result t.ensures.teaches t.ensures.taken t.ensures.view v.claim [] v.given (max v.heard quits) u low same),
      c.len-pass-inside.ensures ∙ sym (ap length (log_turned c.pass.inside.seat t.new.seat t.result t.ensures.teaches t.ensures.taken t.ensures.view v.claim [] v.given (max v.heard quits) u low same)),
    )

pub returns-clause-grows : goal.returns-clause-grows
returns-clause-grows g c = let t = c.take-store in let v = c.pass.inside.seat.view in let u = c.end.new.seat in
    let quits = c.stat-stat.result.quits in
    subst (λ (p : PassState). Grows p.view u.view) c.pass.view_is
    (grows_turned c.pass.inside.seat t.new.seat t.result t.ensures.teaches t.ensures.taken t.ensures.view v.claim [] v.given (max v.heard quits) u (low_max v.heard quits)
    (after_hear c.pass.inside.seat t.new.seat t.result t.ensures.teaches t.ensures.taken t.ensures.view u quits c.end.ensures.view))

pub returns-clause-tells : goal.returns-clause-tells
returns-clause-tells g c = let t = c.take-store in let v = c.pass.inside.seat.view in let u = c.end.new.seat in
    tells t.result v u.view c.stat-stat.result t.ensures.teaches c.stat-stat.ensures
    (after_hear c.pass.inside.seat t.new.seat t.result t.ensures.teaches t.ensures.taken t.ensures.view u c.stat-stat.result.quits c.end.ensures.view)
