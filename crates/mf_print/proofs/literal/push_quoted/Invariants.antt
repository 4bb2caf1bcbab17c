use Rattle.std.proofs.Common.{◌≡◌, ◌++◌, ◌∷◌, []}
use Rattle.std.specs.List.{flat_map}
use Rattle.mf_tree.specs.Canonical.{escaped, escaped_in_quotes}
use Rattle.mf_print.proofs.literal.push_quoted.Given as goal

abbrev pub invariant-loop-c : goal.invariant-loop-c
invariant-loop-c l = l.out ≡ (l.fn.out ++ 0x7C ∷ []) ++ flat_map (escaped escaped_in_quotes) l.yielded
