use Rattle.mf_wire.specs.Replies.{fault_data}
use Rattle.mf_wire.proofs.Bracketed.{WritesItems}
use Rattle.mf_wire.proofs.writing.write_faults.Given as goal

abbrev pub invariant-loop-fault : goal.invariant-loop-fault
invariant-loop-fault l = WritesItems fault_data l.faults l.fault-index l.fn.out l.out
