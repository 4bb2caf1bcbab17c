-- The rules so far are those of the texts so far.
use Rattle.std.proofs.Common.{length}
use Rattle.mf_plural.proofs.Numbering.{ReadsFront}
use Rattle.mf_plural.proofs.reading.read_rules.Given as goal

abbrev pub invariant-loop-rest : goal.invariant-loop-rest
invariant-loop-rest l = ReadsFront l.fn.text l.rest l.rules

abbrev pub decreases-loop-rest : goal.decreases-loop-rest
decreases-loop-rest l = length l.rest
