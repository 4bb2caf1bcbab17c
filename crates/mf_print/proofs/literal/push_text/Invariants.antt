use Rattle.std.proofs.Common.{◌≡◌, ◌++◌}
use Rattle.mf_tree.specs.Canonical.{text_source}
use Rattle.mf_print.proofs.literal.push_text.Given as goal

abbrev pub invariant-loop-c : goal.invariant-loop-c
invariant-loop-c l = l.out ≡ l.fn.out ++ text_source l.yielded
