use Rattle.std.proofs.Common.{refl, subst}
use Rattle.mf_hub.specs.Passes.{Grows, PassState}
use Rattle.mf_hub.proofs.Turned.{core_same, grows_same, may_same, pass_same, seen_same}
use Rattle.mf_hub.proofs.hub.Hub.newest_for.Goals as goal

pub end-requires-clause-core : goal.end-requires-clause-core
end-requires-clause-core g c = let t = c.take-store in
    core_same c.pass.inside.seat t.new.seat t.result t.ensures.teaches t.ensures.taken t.ensures.view t.result (refl, refl)

pub end-requires-clause-may : goal.end-requires-clause-may
end-requires-clause-may g c = let t = c.take-store in
    may_same c.pass.inside.seat t.new.seat t.result t.ensures.teaches t.ensures.taken t.ensures.view t.result (refl, refl)

pub invariant_of-pass : goal.invariant_of-pass
invariant_of-pass g c = let t = c.take-store in let p = c.pass in (
  pass_same p.inside.seat t.new.seat t.result t.ensures.teaches t.ensures.taken t.ensures.view p.inside.number p.inside.pinned p.invariant.0
      c.end.new.seat c.end.ensures.free c.end.ensures.view,
  seen_same p.inside.seat t.new.seat t.result t.ensures.teaches t.ensures.taken t.ensures.view c.end.new.seat c.len-pass-inside.result c.end.ensures.view
      c.len-pass-inside.ensures,
)

pub returns-clause-grows : goal.returns-clause-grows
returns-clause-grows g c = let t = c.take-store in
    subst (λ (p : PassState). Grows p.view c.end.new.seat.view) c.pass.view_is
    (grows_same c.pass.inside.seat t.new.seat t.result t.ensures.teaches t.ensures.taken t.ensures.view c.end.new.seat c.end.ensures.view)
