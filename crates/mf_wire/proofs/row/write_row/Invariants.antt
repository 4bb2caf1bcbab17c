use Rattle.mf_wire.proofs.Rows.{WritesRow}
use Rattle.mf_wire.proofs.row.write_row.Given as goal

abbrev pub invariant-loop-member : goal.invariant-loop-member
invariant-loop-member l = WritesRow l.row l.member-index l.fn.out l.out
