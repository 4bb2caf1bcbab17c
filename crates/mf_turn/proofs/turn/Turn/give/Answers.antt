use Rattle.std.proofs.Common.{◌≡◌}
use Rattle.mf_queue.specs.Duties.{MayGive}
use Rattle.mf_turn.specs.Acts.{after, MayEnd}
use Rattle.mf_turn.proofs.Duties.{may_give, Held}
use Rattle.mf_turn.proofs.Standings.{held}
use Rattle.mf_turn.proofs.turn.Turn.give.Goals as goal

pub give-requires-clause-may : goal.give-requires-clause-may
give-requires-clause-may g c = let account = g.T.Shared.account in let place = c.seat.inside.place in
    held c.args.seat.now place (λ x v. MayEnd c.args.act (account x) (account c.args.value) v)
    (λ x count. MayGive (Held g.T.Shared.caller g.T.Shared.nth account) place.id place.me.0.view count x c.args.act c.args.value (λ v count x act y w. w ≡ after act (account x) v))
    c.seat.view_is
    (λ x count may. may_give g.T.Shared.caller g.T.Shared.nth account c.args.act place.id place.me.0.view count x c.args.value may) c.requires.may
