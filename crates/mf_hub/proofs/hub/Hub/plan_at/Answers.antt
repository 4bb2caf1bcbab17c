use Rattle.std.proofs.Common.{ap, subst}
use Rattle.std.proofs.lemmas.Result.{IfOk-weaker}
use Rattle.std.specs.Prelude.{IfOk}
use Rattle.std.specs.Arc.{arc_value}
use Rattle.mf_hub.specs.Passes.{Gets, Grows, Known, PassState}
use Rattle.mf_hub.proofs.Growing.{grows_counted, grows_through}
use Rattle.mf_hub.proofs.Seats.{gets_later}
use Rattle.mf_hub.proofs.hub.Hub.plan_at.Goals as goal

pub returns-clause-grows : goal.returns-clause-grows
returns-clause-grows g c = let u = c.count-pass-inside.new.seat.view in
    subst (λ (p : PassState). Grows p.view u) c.pass.view_is
    (grows_through _ _ u c.plan_in-plan.ensures.grows (grows_counted _ u c.count-pass-inside.result c.count-pass-inside.ensures.counted))

pub returns-clause-gets : goal.returns-clause-gets
returns-clause-gets g c = let i = c.pass.inside in let u = c.count-pass-inside.new.seat.view in let n = c.count-pass-inside.ensures.counted in
    subst (λ (p : PassState). IfOk c.plan_in-plan.result (λ plan. Gets c.args.index (arc_value plan) p.view u)) c.pass.view_is
    (IfOk-weaker c.plan_in-plan.result _ _
    (λ plan gets. gets_later c.editions_stay.ensures c.args.index (arc_value plan) i.seat.view c.plan_in-plan.new.seat.view u i.pinned
    c.pass.invariant.0.pin c.plan_in-plan.ensures.grows gets (grows_counted _ u c.count-pass-inside.result n) (ap (λ (v : Known). v.given) n.kept))
    c.plan_in-plan.ensures.gets)
