use Rattle.std.proofs.Common.{◌∙◌, Some, ap, refl}
use Rattle.mf_core.specs.declared.event.Event.TheVariants.{Pin}
use Rattle.mf_core.specs.declared.event.Told.TheVariants.{Pinned}
use Rattle.mf_core.specs.Kept.{board_world, repinned}
use Rattle.mf_core.specs.Worlds.{World, swept}
use Rattle.mf_core.proofs.Afterwards.{does, kept_moved}
use Rattle.mf_core.proofs.board.Board.pin.Goals as goal

pub returns-clause-step : goal.returns-clause-step
returns-clause-step g c =
    let w : World = board_world c.args.self.now in
    let newest = c.len-newest.ensures.len in
    does w (Pin c.args.caller) (Pinned c.len-newest.result) (board_world c.repin.new.self) c.requires.yours refl (ap Pinned newest)
    (c.repin.ensures.world ∙ ap (λ k. swept (repinned w c.args.caller (Some k) k)) newest)

pub returns-clause-kept : goal.returns-clause-kept
returns-clause-kept g c =
    let w : World = board_world c.args.self.now in
    let newest = c.len-newest.ensures.len in
    kept_moved c.args.self.now c.repin.new.self (Pin c.args.caller) (repinned w c.args.caller (Some c.len-newest.result) c.len-newest.result)
    c.editions_stay.ensures c.requires.kept c.requires.yours refl (ap (λ k. repinned w c.args.caller (Some k) k) newest) refl
    c.repin.ensures.world c.repin.ensures.many c.repin.ensures.messages c.repin.ensures.counted
