use Rattle.std.proofs.Common.{None, refl}
use Rattle.mf_core.specs.Running.{world_of}
use Rattle.mf_core.specs.Worlds.{World}
use Rattle.mf_core.proofs.Wholes.{whole_own}
use Rattle.mf_core.proofs.world.World.unpin.Goals as goal

pub returns-clause-whole : goal.returns-clause-whole
returns-clause-whole c =
    let w : World = world_of c.args.self.now in
    whole_own c.args.self.now c.unpin.new.self c.requires.whole c.unpin.ensures.kept c.args.caller
    (record (w.caller c.args.caller) { pinned = None }) c.unpin.ensures.step.changes refl
