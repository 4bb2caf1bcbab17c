use Rattle.std.proofs.Common.{◌≡◌, ◌++◌, take}
use Rattle.std.specs.List.{flat_map}
use Rattle.mf_tree.specs.Canonical.{selector_source}
use Rattle.mf_print.proofs.message.push_selectors.Given as goal

abbrev pub invariant-loop-selector : goal.invariant-loop-selector
invariant-loop-selector l = l.out ≡ l.fn.out ++ flat_map selector_source (take l.selector-index l.selector-items)
