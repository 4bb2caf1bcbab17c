use Rattle.mf_turn.proofs.Duties.{may_take}
use Rattle.mf_turn.proofs.turn.Turn.take.Goals as goal

pub take-requires-clause-may : goal.take-requires-clause-may
take-requires-clause-may g c = may_take g.T.Shared.caller g.T.Shared.nth g.T.Shared.account _ _
