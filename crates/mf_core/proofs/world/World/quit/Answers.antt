use Rattle.std.proofs.Common.{◌∙◌, None, ap, sym}
use Rattle.mf_edition.specs.Edition.{newest_edition}
use Rattle.mf_core.specs.Kept.{board_world}
use Rattle.mf_core.specs.Running.{world_of}
use Rattle.mf_core.specs.Worlds.{World}
use Rattle.mf_core.specs.declared.event.Told.TheVariants.{Ended}
use Rattle.mf_core.proofs.Wholes.{quit_ends, quit_stays, put_claims}
use Rattle.mf_core.proofs.world.World.quit.Goals as goal

pub returns-clause-whole : goal.returns-clause-whole
returns-clause-whole c =
    let w : World = world_of c.args.self.now in
    let v : World = board_world c.quit.new.self in
    let same = quit_stays w v c.args.caller Ended c.quit.ensures.step in
    let claims = quit_ends w v c.args.caller Ended c.quit.ensures.step in
    record {
      kept = c.quit.ensures.kept;
      newest = c.requires.whole.newest ∙ ap newest_edition (sym same.0);
      many = c.take_ticket.ensures.puts.many ∙ c.requires.whole.many ∙ sym same.1;
      tickets = put_claims w v c.args.caller None c.args.self.now.tickets.items c.take_ticket.new.tickets.items
          c.requires.whole.tickets c.take_ticket.ensures.puts claims.0 claims.1;
    }
