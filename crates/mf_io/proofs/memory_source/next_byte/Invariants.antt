use Rattle.std.proofs.Common.{◌-◌, length}
use Rattle.mf_io.specs.Memory.{pieces_from}
use Rattle.mf_io.proofs.Pieces.{SameBytes}
use Rattle.mf_io.proofs.memory_source.next_byte.Given as goal

abbrev pub invariant-loop-bytes : goal.invariant-loop-bytes
invariant-loop-bytes l = SameBytes l.pieces l.piece l.byte (pieces_from l.initial.piece l.initial.byte l.pieces)

abbrev pub decreases-loop-bytes : goal.decreases-loop-bytes
decreases-loop-bytes l = length l.pieces - l.piece
