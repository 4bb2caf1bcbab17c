-- The ends of a connection go to the thread that serves it.
use denote.RattleType.{RattleType}
use denote.Param.Send.{IsSend, sendable}
use Rattle.std.proofs.Crossing.{crosses}
use Rattle.mf_io.specs.contracts.calls.Calls as calls
use Rattle.mf_io.specs.contracts.memory_sink.MemorySink as memory_sink
use Rattle.mf_io.specs.contracts.memory_source.MemorySource as memory_source
use Rattle.mf_io.specs.contracts.std_sink.StdSink as std_sink
use Rattle.mf_io.specs.contracts.std_source.StdSource as std_source

calls_send : IsSend calls.the_row
calls_send = search (sendable, crosses) depth 30

pub memory_source_send : IsSend memory_source.the_row
memory_source_send = search (sendable, crosses, calls_send) depth 30

pub memory_sink_send : IsSend memory_sink.the_row
memory_sink_send = search (sendable, crosses, calls_send) depth 30

pub std_source_send : (R : RattleType) → IsSend R → IsSend (std_source.the_row R)
std_source_send R send = search (sendable, crosses) depth 30

pub std_sink_send : (W : RattleType) → IsSend W → IsSend (std_sink.the_row W)
std_sink_send W send = search (sendable, crosses) depth 30
