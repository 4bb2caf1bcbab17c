use Rattle.std.proofs.Common.{◌∙◌, None, ap, refl}
use Rattle.mf_core.specs.declared.caller.CallerState.{CallerState}
use Rattle.mf_core.specs.declared.event.Event.TheVariants.{Unpin}
use Rattle.mf_core.specs.declared.event.Told.TheVariants.{Ended}
use Rattle.mf_core.specs.Kept.{board_world, repinned}
use Rattle.mf_core.specs.Worlds.{World, swept}
use Rattle.mf_core.proofs.Afterwards.{does, kept_moved}
use Rattle.mf_core.proofs.board.Board.unpin.Goals as goal

pub returns-clause-step : goal.returns-clause-step
returns-clause-step g c =
    let w : World = board_world c.args.self.now in
    let seen = ap (λ (s : CallerState). s.seen) c.state_at-seen.ensures in
    does w (Unpin c.args.caller) Ended (board_world c.repin.new.self) c.requires.yours refl refl
    (c.repin.ensures.world ∙ ap (λ k. swept (repinned w c.args.caller None k)) seen)

pub returns-clause-kept : goal.returns-clause-kept
returns-clause-kept g c =
    let w : World = board_world c.args.self.now in
    let seen = ap (λ (s : CallerState). s.seen) c.state_at-seen.ensures in
    kept_moved c.args.self.now c.repin.new.self (Unpin c.args.caller) (repinned w c.args.caller None c.state_at-seen.result.seen)
    c.editions_stay.ensures c.requires.kept c.requires.yours refl (ap (λ k. repinned w c.args.caller None k) seen) refl
    c.repin.ensures.world c.repin.ensures.many c.repin.ensures.messages c.repin.ensures.counted
