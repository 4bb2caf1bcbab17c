use Rattle.std.proofs.Common.{ap, sym}
use Rattle.mf_core.specs.declared.caller.CallerState.{CallerState}
use Rattle.mf_core.specs.Kept.{board_world}
use Rattle.mf_core.specs.Steps.{maker}
use Rattle.mf_core.proofs.Afterwards.{pin_low}
use Rattle.mf_core.proofs.board.Board.is_not_yours.Goals as goal

pub is_past-requires-clause-pinned : goal.is_past-requires-clause-pinned
is_past-requires-clause-pinned g c =
    pin_low (board_world c.args.self.now) c.requires.kept.valid (maker c.args.event.now) c.args.state.now.pinned
    (ap (λ (s : CallerState). s.pinned) (sym c.requires.state))
