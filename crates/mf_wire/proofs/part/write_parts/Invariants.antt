use Rattle.mf_wire.specs.Parts.{part_data}
use Rattle.mf_wire.proofs.Bracketed.{WritesItems}
use Rattle.mf_wire.proofs.part.write_parts.Given as goal

abbrev pub invariant-loop-part : goal.invariant-loop-part
invariant-loop-part l = WritesItems part_data l.part-items l.part-index l.fn.out l.out
