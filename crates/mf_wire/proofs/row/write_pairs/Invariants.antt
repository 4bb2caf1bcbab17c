use Rattle.mf_wire.proofs.Rows.{WritesPairs}
use Rattle.mf_wire.proofs.row.write_pairs.Given as goal

abbrev pub invariant-loop-pair : goal.invariant-loop-pair
invariant-loop-pair l = WritesPairs l.pairs l.pair-index l.fn.out l.out
