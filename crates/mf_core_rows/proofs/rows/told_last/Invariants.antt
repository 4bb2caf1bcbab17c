use Rattle.mf_core.specs.Running.{IsWhole}
use Rattle.mf_core_rows.proofs.rows.told_last.Given as goal

abbrev pub invariant-loop-words : goal.invariant-loop-words
invariant-loop-words l = IsWhole l.world
