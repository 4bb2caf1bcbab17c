use denote.RattleType.{RattleType}
use denote.Param.{param}
use denote.Param.Send.{sendable, IsSync}
use Rattle.mf_turn.proofs.Crossing.{seat_send, turn_sync}
use Rattle.mf_turn_rows.specs.contracts.crowd.add_together.{R-row}
use Rattle.mf_turn_rows.proofs.Crossing.{tally_send}
use Rattle.mf_turn_rows.proofs.crowd.add_together.Goals as goal
use Rattle.mf_turn_rows.proofs.crowd.add_together.Lts.{arg-0-4}

closure_sync : (R : RattleType) (l : _) (t : _) (w : _) (κs : _) → IsSync (R-row R) → IsSync (param 4 (arg-0-4 R l t w κs))
closure_sync R l t w κs s = search (sendable, turn_sync, tally_send) depth 30

pub map_vec-requires-sync-F : goal.map_vec-requires-sync-F
map_vec-requires-sync-F g c κs within = closure_sync g.row.R g.R.laws g.R.Threads-dict g.R.Wait-dict κs c.type_bounds.sync-R

pub map_vec-requires-send-J : goal.map_vec-requires-send-J
map_vec-requires-send-J g c κs within = search (sendable, seat_send, tally_send) depth 30

pub map_vec-requires-send-X : goal.map_vec-requires-send-X
map_vec-requires-send-X g c κs within = search (sendable, seat_send, tally_send) depth 30
