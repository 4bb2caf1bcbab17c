-- What is left goes on with the value so far, and not with a character that stands for itself.
use Rattle.std.proofs.Common.{◌≡◌, false, length}
use Rattle.mf_text.specs.Characters.{is_quoted}
use Rattle.mf_lex.specs.Computed.{is_next, gathered, quoted_from}
use Rattle.mf_lex.proofs.literal.read_quoted.Given as goal

abbrev pub invariant-loop-cursor : goal.invariant-loop-cursor
invariant-loop-cursor l = record {
  same : gathered l.value l.cursor.left ≡ quoted_from false l.fn.cursor.left;
  end : is_next is_quoted l.cursor.left ≡ false;
  whole : l.cursor.whole ≡ l.fn.cursor.whole;
}

abbrev pub decreases-loop-cursor : goal.decreases-loop-cursor
decreases-loop-cursor l = length l.cursor.left
