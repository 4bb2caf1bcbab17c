use Rattle.std.proofs.Common.{rules, ℕ, ◌∷◌, sym, ap, ◌∙◌, subst}
use Rattle.atomic_table.specs.Table.{rest}
use Rattle.mf_queue.specs.declared.parts.Item.TheVariants.{Home}
use Rattle.mf_queue.specs.Duties.{MayTake}
use Rattle.mf_queue.proofs.Keeps.{looks}
use Rattle.mf_queue.proofs.queue.Queue.take.Goals as goal

pub load-requires : goal.load-requires
load-requires g c = let same = c.draw-place.ensures.same in let i = c.loop.invariant in (
  search rules,
  search rules,
  looks _ _ g.M.Learning.then _ _ _ c.draw-place.result i.2.0
      (subst (λ (z : ℕ × g.row.V.Denot). MayTake g.P.QueueRule.holds z.0 z.1 g.M.Learning.then) (λ k. (sym (i.0.1 ∙ same.0.1) k, sym (i.1 ∙ same.1) k)) c.requires.may),
)

pub exchange-requires : goal.exchange-requires
exchange-requires g c = let t = (c.load.ensures.2 c.draw-place.result c.loop.invariant.2.0).0 c.if-load-place.true in
    (search rules, (Home t.0 t.2, t.4 ∙ ap (λ l. (0, Home t.0 t.2) ∷ rest l) (sym t.4)))
