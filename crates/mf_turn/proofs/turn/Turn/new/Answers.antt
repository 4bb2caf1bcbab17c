use Rattle.mf_turn.proofs.Duties.{may_open}
use Rattle.mf_turn.proofs.turn.Turn.new.Goals as goal

pub new-requires : goal.new-requires
new-requires g c = may_open g.T.Shared.caller g.T.Shared.nth g.T.Shared.account c.args.value c.requires
