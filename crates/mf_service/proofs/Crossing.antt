-- Sessions cross to their threads.
use denote.Param.Send.{IsSend, sendable}
use Rattle.mf_hub.proofs.Crossing.{pass_send}
use Rattle.mf_service.specs.contracts.visit.Visit as visit

pub visit_send : IsSend visit.the_row
visit_send = search (sendable, pass_send) depth 30
