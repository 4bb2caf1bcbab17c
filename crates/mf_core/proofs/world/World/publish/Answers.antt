use Rattle.std.proofs.Common.{◌∙◌, ◌+◌, ap, refl, sym, length}
use Rattle.mf_core.specs.Running.{world_of}
use Rattle.mf_core.specs.Kept.{board_world}
use Rattle.mf_core.specs.Worlds.{World}
use Rattle.mf_core.specs.declared.caller.CallerState.{CallerState}
use Rattle.mf_core.specs.declared.event.Told.TheVariants.{Published}
use Rattle.mf_core.proofs.Puts.{part_stays}
use Rattle.mf_core.proofs.Wholes.{published_newest, whole_same}
use Rattle.mf_core.proofs.world.World.publish.Goals as goal

pub returns-in_err-number-clause-whole : goal.returns-in_err-number-clause-whole
returns-in_err-number-clause-whole c =
    whole_same c.args.self.now c.publish.new.self c.requires.whole c.in_err-number.ensures.kept c.in_err-number.ensures.err

pub returns-clause-whole : goal.returns-clause-whole
returns-clause-whole c =
    let w : World = world_of c.args.self.now in
    let v : World = board_world c.publish.new.self in
    let step = c.in_ok-number.ensures.step in
    let new : CallerState = record (w.caller c.args.caller) { made = (w.caller c.args.caller).made + 1; seen = length w.log + 1 } in
    record {
      kept = c.in_ok-number.ensures.kept;
      newest = c.in_ok-edition.ensures.edition
          ∙ published_newest w v c.args.caller c.args.change (Published c.in_ok-number.number) c.editions_follow.ensures step;
      many = c.requires.whole.many ∙ ap (λ (x : World). x.next) (sym step.changes);
      tickets = λ m. c.requires.whole.tickets m ∙ sym (part_stays (λ (s : CallerState). s.claim) w.caller c.args.caller new refl m)
          ∙ ap (λ (x : World). (x.caller m).claim) (sym step.changes);
    }
