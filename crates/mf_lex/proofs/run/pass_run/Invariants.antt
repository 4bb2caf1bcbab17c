-- The same is left behind the run.
use Rattle.std.proofs.Common.{◌≡◌, length}
use Rattle.mf_lex.specs.Classes.{holds}
use Rattle.mf_lex.specs.Computed.{behind_run}
use Rattle.mf_lex.proofs.run.pass_run.Given as goal

abbrev pub invariant-loop-class : goal.invariant-loop-class
invariant-loop-class l = record {
  same : behind_run (holds l.class) l.cursor.left ≡ behind_run (holds l.class) l.fn.cursor.left;
  whole : l.cursor.whole ≡ l.fn.cursor.whole;
}

abbrev pub decreases-loop-class : goal.decreases-loop-class
decreases-loop-class l = length l.cursor.left
