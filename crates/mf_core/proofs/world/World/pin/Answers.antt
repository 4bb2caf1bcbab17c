use Rattle.std.proofs.Common.{Some, refl, length}
use Rattle.mf_core.specs.Running.{world_of}
use Rattle.mf_core.specs.Worlds.{World}
use Rattle.mf_core.proofs.Wholes.{whole_own}
use Rattle.mf_core.proofs.world.World.pin.Goals as goal

pub returns-clause-whole : goal.returns-clause-whole
returns-clause-whole c =
    let w : World = world_of c.args.self.now in
    whole_own c.args.self.now c.pin-edition.new.self c.requires.whole c.pin-edition.ensures.kept c.args.caller
    (record (w.caller c.args.caller) { pinned = Some (length w.log); seen = length w.log }) c.pin-edition.ensures.step.changes refl
