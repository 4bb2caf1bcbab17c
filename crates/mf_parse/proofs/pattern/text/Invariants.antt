-- The text so far was passed, and no character that stands for itself is next.
use Rattle.std.proofs.Common.{◌≡◌, false, length}
use Rattle.mf_text.specs.Characters.{is_text}
use Rattle.mf_lex.specs.Computed.{is_next}
use Rattle.mf_parse.proofs.Texts.{Passed}
use Rattle.mf_parse.proofs.pattern.text.Given as goal

abbrev pub invariant-loop-c : goal.invariant-loop-c
invariant-loop-c l = record {
  passed : Passed l.text l.fn.cursor.left l.cursor.left;
  end : is_next is_text l.cursor.left ≡ false;
}

abbrev pub decreases-loop-c : goal.decreases-loop-c
decreases-loop-c l = length l.cursor.left
