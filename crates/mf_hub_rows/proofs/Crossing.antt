-- Passes that walked or asked come back from their threads, and a gate is looked at by many.
use denote.Param.Send.{IsSend, IsSync, sendable}
use Rattle.std.proofs.Crossing.{crosses}
use Rattle.mf_hub.proofs.Crossing.{pass_send}
use Rattle.mf_hub_rows.specs.contracts.asking.Asker as asker
use Rattle.mf_hub_rows.specs.contracts.crowd.Walked as walked
use Rattle.mf_hub_rows.specs.contracts.gates.Hold as hold

pub walked_send : IsSend walked.the_row
walked_send = search (sendable, pass_send) depth 30

pub asker_send : IsSend asker.the_row
asker_send = search (sendable, crosses, pass_send) depth 30

pub hold_sync : IsSync hold.the_row
hold_sync = search (sendable, crosses) depth 30
