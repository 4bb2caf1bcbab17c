-- Seats at a tally go to other threads, and its turn is shared by them.
use denote.Param.Send.{IsSend, sendable}
use Rattle.std.proofs.Crossing.{crosses}
use Rattle.mf_turn_rows.specs.contracts.tally.Tally as tally

pub tally_send : IsSend tally.the_row
tally_send = search (sendable, crosses) depth 30
