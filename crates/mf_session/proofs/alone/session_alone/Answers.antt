use Rattle.mf_lines.proofs.Following.{outcome_follows}
use Rattle.mf_lines.specs.Served.{Served}
use Rattle.mf_session.proofs.Turned.{sole}
use Rattle.mf_session.specs.Turns.{Turns}
use Rattle.mf_transcript.specs.Sole.{Sole}
use Rattle.mf_session.proofs.alone.session_alone.Goals as goal

pub returns-clause-outcome : goal.returns-clause-outcome
returns-clause-outcome g c =
    outcome_follows (Served Turns) Sole _ _ _ _ _ _ _ (sole c.args.desk.now c.answer_input.new.desk) _ _ _ c.answer_input.ensures.outcome
