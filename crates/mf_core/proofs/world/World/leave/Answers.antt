use Rattle.mf_core.specs.Running.{world_of}
use Rattle.mf_core.specs.Worlds.{away}
use Rattle.mf_core.proofs.Wholes.{left_claim, whole_own}
use Rattle.mf_core.proofs.world.World.leave.Goals as goal

pub returns-clause-whole : goal.returns-clause-whole
returns-clause-whole c =
    whole_own c.args.self.now c.leave.new.self c.requires.whole c.leave.ensures.kept c.args.caller away c.leave.ensures.step.changes
    (left_claim (world_of c.args.self.now) c.args.caller c.requires.yours)
