use Rattle.std.proofs.Common.{◌<◌, [], ◌∷◌, subst, sym}
use Rattle.std.proofs.lemmas.Result.{on_err_weaker, on_ok_weaker}
use Rattle.std.specs.Arc.{arc_value}
use Rattle.mf_hub.specs.Desks.{message_count, Forgoes, Gains}
use Rattle.mf_hub.specs.Kept.{desk_of, AreOf, Finds, Misses}
use Rattle.mf_hub.proofs.Desks.{forgoes, gains}
use Rattle.mf_hub.proofs.alone.Alone.plan.Goals as goal

pub returns-clause-ok : goal.returns-clause-ok
returns-clause-ok c =
    let log = c.self.inside.publications in
    let after = c.plan_among.new.flights in
    on_ok_weaker c.plan_among.result
    (λ found. subst (λ desk. Gains desk (c.args.index ∷ []) (desk_of log after)) c.self.view_is
    (gains arc_value log c.self.inside.flights after c.args.index c.self.invariant
    (subst (λ edition. AreOf arc_value edition after) c.newest.ensures c.plan_among.ensures.kept)
    (subst (λ edition. Finds edition c.self.inside.flights c.args.index after) c.newest.ensures found)))
    c.plan_among.ensures.ok

pub returns-clause-err : goal.returns-clause-err
returns-clause-err c =
    let log = c.self.inside.publications in
    let after = c.plan_among.new.flights in
    on_err_weaker c.plan_among.result
    (λ missed. subst (λ desk. Forgoes desk (c.args.index ∷ []) (desk_of log after)) c.self.view_is
    (forgoes arc_value log c.self.inside.flights after c.args.index c.self.invariant
    (subst (λ edition. AreOf arc_value edition after) c.newest.ensures c.plan_among.ensures.kept)
    (subst (λ desk. c.args.index < message_count desk) (sym c.self.view_is) c.requires)
    (subst (λ edition. Misses edition c.self.inside.flights c.args.index after) c.newest.ensures missed)))
    c.plan_among.ensures.err
