use Rattle.mf_core.proofs.Together.{scripts_are_legal}
use Rattle.mf_core.proofs.scripts.scripts_are_legal.Goals as goal

pub returns : goal.returns
returns g c = λ local. scripts_are_legal g.M.Meaning.answer local c.editions_stay.ensures
