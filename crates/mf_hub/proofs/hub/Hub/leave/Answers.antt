use Rattle.std.proofs.Common.{length, ◌∙◌, inr, ap, sym, subst}
use Rattle.mf_turn.specs.declared.act.Act.TheVariants as act
use Rattle.mf_turn.specs.Acts.{after, caught_up}
use Rattle.mf_turn.specs.Taught.{Teaches}
use Rattle.mf_hub.specs.Passes.{Inherits, Known, PassState}
use Rattle.mf_hub.specs.Stores.{account_of, caller_of, nth_of}
use Rattle.mf_hub.proofs.Growing.{inherits}
use Rattle.mf_hub.proofs.Turned.{after_end, pass_left, quiet}
use Rattle.mf_hub.proofs.hub.Hub.leave.Goals as goal

pub end-requires-clause-core : goal.end-requires-clause-core
end-requires-clause-core g c = let t = c.take-store in (t.result, t.ensures.taken, inr c.leave.ensures.step)

pub end-requires-clause-may : goal.end-requires-clause-may
end-requires-clause-may g c = let t = c.take-store in let j = c.join.new.into in
    let leaving = ap (λ (z : Known). z.leaving) (t.ensures.view ∙ ap (λ (z : Known). caught_up z (account_of t.result)) c.join.ensures.view) in (
      t.result,
      t.ensures.taken,
      (
        quiet j t.new.seat t.result t.ensures.teaches t.ensures.taken t.ensures.view,
        (c.pass.inside.number, leaving ∙ c.pass.invariant.0.number_is, c.leave.ensures.leaves),
      ),
    )

pub invariant_of-into : goal.invariant_of-into
invariant_of-into g c = let t = c.take-store in let p = c.into in let i = p.inside in let x = account_of t.result in let left : Known = c.pass.inside.seat.view in
    let joined = c.join.ensures.view in
    let same = after_end t.new.seat c.end.new.seat t.result act.Leave t.ensures.taken c.end.ensures.view
    ∙ ap (λ (z : Known). after act.Leave x z) (t.ensures.view ∙ ap (λ (z : Known). caught_up z x) joined) in (
      pass_left i.seat c.end.new.seat i.number i.pinned p.invariant.0 left x
          (subst (λ (z : Known). Teaches caller_of nth_of x z) joined t.ensures.teaches) c.end.ensures.free same,
      c.len-into-inside.ensures ∙ sym (ap (λ (v : Known). length v.log) same),
    )

pub returns-clause-inherits : goal.returns-clause-inherits
returns-clause-inherits g c = let t = c.take-store in let v : Known = c.into.inside.seat.view in let x = account_of t.result in
    let left : Known = c.pass.inside.seat.view in let joined = c.join.ensures.view in
    let same = after_end t.new.seat c.end.new.seat t.result act.Leave t.ensures.taken c.end.ensures.view
    ∙ ap (λ (z : Known). after act.Leave x z) (t.ensures.view ∙ ap (λ (z : Known). caught_up z x) joined) in
    subst (λ (s : PassState × PassState). Inherits s.0.view s.1.view c.end.new.seat.view) (λ k. (c.into.view_is k, c.pass.view_is k))
    (subst (Inherits v left) (sym same) (inherits v left x (subst (λ (z : Known). Teaches caller_of nth_of x z) joined t.ensures.teaches)))
