use denote.RattleType.{RattleType}
use denote.Param.{param}
use denote.Param.Send.{sendable, IsSend, IsSync}
use Rattle.mf_turn.proofs.Crossing.{seat_send, turn_sync}
use Rattle.mf_turn_rows.specs.contracts.crowd.publish_and_watch.{R-row}
use Rattle.mf_turn_rows.proofs.Crossing.{tally_send}
use Rattle.mf_turn_rows.proofs.crowd.publish_and_watch.Goals as goal
use Rattle.mf_turn_rows.proofs.crowd.publish_and_watch.Lts.{arg-0-1}

writer_send : (R : RattleType) (l : _) (t : _) (w : _) (κs : _) → IsSync (R-row R) → IsSend (param 1 (arg-0-1 R l t w κs))
writer_send R l t w κs s = search (sendable, seat_send, turn_sync, tally_send) depth 30

pub join-requires-send-F : goal.join-requires-send-F
join-requires-send-F g c κs within = writer_send g.row.R g.R.laws g.R.Threads-dict g.R.Wait-dict κs c.type_bounds.sync-R

pub join-requires-send-A : goal.join-requires-send-A
join-requires-send-A g c κs within = search (sendable, seat_send, tally_send) depth 30
