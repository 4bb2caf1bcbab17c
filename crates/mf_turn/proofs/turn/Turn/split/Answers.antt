use Rattle.mf_turn.proofs.Duties.{may_split}
use Rattle.mf_turn.proofs.turn.Turn.split.Goals as goal

pub split-requires-clause-may : goal.split-requires-clause-may
split-requires-clause-may g c = may_split g.T.Shared.caller g.T.Shared.nth g.T.Shared.account _ _
