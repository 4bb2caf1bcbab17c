-- Callers go to their threads and come back, and a gate is passed by several.
use denote.Param.Send.{IsSend, IsSync, sendable}
use Rattle.std.proofs.Crossing.{crosses}
use Rattle.mf_hub.proofs.Crossing.{pass_send}
use Rattle.mf_session_rows.specs.contracts.callers.Caller as caller
use Rattle.mf_session_rows.specs.contracts.gates.SecondPin as gate

pub caller_send : IsSend caller.the_row
caller_send = search (sendable, crosses, pass_send) depth 30

pub gate_sync : IsSync gate.the_row
gate_sync = search (sendable, crosses) depth 30
