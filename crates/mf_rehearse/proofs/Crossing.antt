-- Callers come back from their threads.
use denote.Param.Send.{IsSend, sendable}
use Rattle.mf_hub.proofs.Crossing.{pass_send}
use Rattle.mf_io.proofs.Crossing.{memory_sink_send}
use Rattle.mf_rehearse.specs.contracts.playing.Played as played

pub played_send : IsSend played.the_row
played_send = search (sendable, pass_send, memory_sink_send) depth 30
