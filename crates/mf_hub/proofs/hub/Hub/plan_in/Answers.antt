use Rattle.mf_hub.proofs.Growing.{grows_through}
use Rattle.mf_hub.proofs.hub.Hub.plan_in.Goals as goal

pub returns-in-Claimed-clause-grows : goal.returns-in-Claimed-clause-grows
returns-in-Claimed-clause-grows g c = grows_through _ _ _ c.ask.ensures.grows c.compile.ensures.grows
