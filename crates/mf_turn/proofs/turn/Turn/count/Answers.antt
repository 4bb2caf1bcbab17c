use Rattle.mf_turn.proofs.Duties.{may_count}
use Rattle.mf_turn.proofs.turn.Turn.count.Goals as goal

pub count-requires-clause-may : goal.count-requires-clause-may
count-requires-clause-may g c = may_count g.T.Shared.caller g.T.Shared.nth g.T.Shared.account _ _
