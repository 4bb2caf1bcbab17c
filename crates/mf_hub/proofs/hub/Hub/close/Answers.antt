use Rattle.std.proofs.Common.{◌∙◌, refl, sym, subst, arith}
use Rattle.mf_hub.specs.Passes.{AreLive, Closes, Grows, Known, PassState}
use Rattle.mf_hub.specs.Stores.{account_of, world_of}
use Rattle.mf_hub.proofs.Closing.{closes, live}
use Rattle.mf_hub.proofs.Turned.{core_same, grows_same, may_same, pass_same, view_same, seen_same}
use Rattle.mf_hub.proofs.hub.Hub.close.Goals as goal

pub end-requires-clause-core : goal.end-requires-clause-core
end-requires-clause-core g c = let t = c.take-store in
    core_same c.pass.inside.seat t.new.seat t.result t.ensures.teaches t.ensures.taken t.ensures.view t.result (refl, refl)

pub end-requires-clause-may : goal.end-requires-clause-may
end-requires-clause-may g c = let t = c.take-store in
    may_same c.pass.inside.seat t.new.seat t.result t.ensures.teaches t.ensures.taken t.ensures.view t.result (refl, refl)

pub invariant_of-pass : goal.invariant_of-pass
invariant_of-pass g c = let t = c.take-store in let p = c.pass in (
  pass_same p.inside.seat t.new.seat t.result t.ensures.teaches t.ensures.taken t.ensures.view p.inside.number p.inside.pinned p.invariant.0
      c.end.new.seat c.end.ensures.free c.end.ensures.view,
  seen_same p.inside.seat t.new.seat t.result t.ensures.teaches t.ensures.taken t.ensures.view c.end.new.seat c.len.result c.end.ensures.view
      c.len.ensures,
)

pub returns-clause-grows : goal.returns-clause-grows
returns-clause-grows g c = let t = c.take-store in
    subst (λ (p : PassState). Grows p.view c.end.new.seat.view) c.pass.view_is
    (grows_same c.pass.inside.seat t.new.seat t.result t.ensures.teaches t.ensures.taken t.ensures.view c.end.new.seat c.end.ensures.view)

pub returns-clause-others : goal.returns-clause-others
returns-clause-others g c = let t = c.take-store in let p = c.pass in let v : Known = p.inside.seat.view in let x = t.result in
    let same = view_same p.inside.seat t.new.seat x t.ensures.teaches t.ensures.taken t.ensures.view c.end.new.seat c.end.ensures.view in
    subst (λ (u : Known). AreLive u c.others-live.result) (sym same)
    (live (account_of x) v p.inside.number t.ensures.teaches p.invariant.0.number_is p.invariant.0.leaving c.others-live.result c.others-live.ensures.others
    (omega (arith, c.if-live-eq0.false)))

pub returns-then-live-eq0-clause-closes : goal.returns-then-live-eq0-clause-closes
returns-then-live-eq0-clause-closes g c = let t = c.take-store in let p = c.pass in let v : Known = p.inside.seat.view in let x = t.result in
    let none_live = sym c.others-live.ensures.others ∙ c.if-live-eq0.true in
    rw c.into_log.ensures (subst (λ (s : PassState). Closes s.view (world_of x).log) p.view_is
    (closes (account_of x) v p.inside.number t.ensures.teaches p.invariant.0.number_is p.invariant.0.leaving c.others-live.ensures.beyond none_live))
