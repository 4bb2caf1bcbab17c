use Rattle.mf_numfmt.proofs.Taking.{IsTaken}
use Rattle.mf_numfmt.proofs.places.Places.of.Given as goal

abbrev pub invariant-loop-wide : goal.invariant-loop-wide
invariant-loop-wide l = IsTaken l.fn.number l.digits l.count l.wide

abbrev pub decreases-loop-wide : goal.decreases-loop-wide
decreases-loop-wide l = l.wide

abbrev pub invariant-loop-rest : goal.invariant-loop-rest
invariant-loop-rest l = IsTaken l.fn.number l.digits l.count l.rest

abbrev pub decreases-loop-rest : goal.decreases-loop-rest
decreases-loop-rest l = l.rest
