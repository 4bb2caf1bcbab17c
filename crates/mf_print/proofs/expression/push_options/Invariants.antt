use Rattle.std.proofs.Common.{◌≡◌, ◌++◌, take}
use Rattle.std.specs.List.{flat_map}
use Rattle.mf_tree.specs.Canonical.{option_source}
use Rattle.mf_print.proofs.expression.push_options.Given as goal

abbrev pub invariant-loop-option : goal.invariant-loop-option
invariant-loop-option l = l.out ≡ l.fn.out ++ flat_map option_source (take l.option-index l.option-items)
