-- A seat goes to other threads, and its turn is shared by them, where the value may be sent.
use denote.RattleType.{RattleType}
use denote.Param.Send.{IsSend, IsSync, sendable}
use Rattle.std.proofs.Crossing.{crosses}
use Rattle.mf_queue.proofs.Crossing as table
use Rattle.mf_queue.specs.contracts.parts.Item as item
use Rattle.mf_turn.specs.contracts.act.Act as act
use Rattle.mf_turn.specs.contracts.turn.Seat as seat
use Rattle.mf_turn.specs.contracts.turn.Turn as turn

item_send : (T : RattleType) → IsSend T → IsSend (item.the_row T act.the_row)
item_send T send = search (sendable, crosses) depth 30

pub seat_send : (T E : RattleType) (g : _) → IsSend T → IsSend (seat.the_row T E g)
seat_send T E g send = let inner : IsSend (item.the_row T act.the_row) = item_send T send in search (sendable, table.seat_send) depth 30

pub turn_sync : (T E : RattleType) (g : _) → IsSend T → IsSync (turn.the_row T E g)
turn_sync T E g send = let inner : IsSend (item.the_row T act.the_row) = item_send T send in search (sendable, crosses, table.shared_sync, table.lease_sync) depth 30
