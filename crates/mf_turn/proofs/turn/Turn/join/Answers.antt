use Rattle.mf_turn.proofs.Duties.{may_join_at}
use Rattle.mf_turn.proofs.turn.Turn.join.Goals as goal

pub join-requires-clause-may : goal.join-requires-clause-may
join-requires-clause-may g c = let asked = c.requires in
    may_join_at g.T.Shared.caller g.T.Shared.nth g.T.Shared.account c.args.into.now c.args.seat c.into.inside.place c.seat.inside.place c.into.view_is c.seat.view_is asked.leaving asked.pin asked.claim asked.number
