use Rattle.std.proofs.Common.{◌≡◌}
use Rattle.mf_core.specs.Kept.{board_world}
use Rattle.mf_hub.specs.Stores.{others_below}
use Rattle.mf_hub.proofs.store.Store.others.Given as goal

abbrev pub invariant-loop-number : goal.invariant-loop-number
invariant-loop-number l = l.others ≡ others_below (board_world l.self-inside.board) l.caller l.number
