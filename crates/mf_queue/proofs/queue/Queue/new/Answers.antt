use Rattle.std.proofs.Common.{[], ◌∷◌, ◌++◌, ap, sym, ◌∙◌, subst, List}
use Rattle.atomic_table.specs.Table.{opening}
use Rattle.mf_queue.specs.declared.parts.Item.{Item}
use Rattle.mf_queue.specs.declared.parts.Item.TheVariants.{Home}
use Rattle.mf_queue.specs.Queue.{Queued, idle}
use Rattle.mf_queue.proofs.Keeps.{starts}
use Rattle.mf_queue.proofs.queue.Queue.new.Goals as goal

pub new-requires : goal.new-requires
new-requires g c = subst (λ (xs : List (Item g.row.T.Denot g.row.A.Denot)). Queued g.P.QueueRule.holds (opening (0 ∷ 0 ∷ 0 ∷ []) xs (idle g.P.QueueRule.first)))
    (sym (c.push_reserved.ensures.items ∙ ap (λ l. l ++ Home c.args.value c.of.result ∷ []) c.in_ok-slots.ensures.items)) (starts _ _ c.args.value g.P.QueueRule.first c.of.result c.requires)
