use Rattle.mf_select.specs.Ranks.{IsBest, row_of}
use Rattle.mf_select.proofs.ranks.Ranks.least.Given as goal

abbrev pub invariant-loop-place : goal.invariant-loop-place
invariant-loop-place l = IsBest (row_of l.fn.self) l.place l.best
