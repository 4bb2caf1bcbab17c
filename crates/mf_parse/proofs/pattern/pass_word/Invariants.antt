-- What is left of the word is to be passed from here.
use Rattle.std.proofs.Common.{◌≡◌, drop}
use Rattle.mf_parse.specs.Computed.{word_at}
use Rattle.mf_parse.proofs.pattern.pass_word.Given as goal

abbrev pub invariant-loop-c : goal.invariant-loop-c
invariant-loop-c l = word_at l.fn.word l.fn.cursor.left ≡ word_at (drop l.c-index l.word) l.ahead.left
