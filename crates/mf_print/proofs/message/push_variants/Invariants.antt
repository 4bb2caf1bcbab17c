use Rattle.std.proofs.Common.{◌≡◌, ◌++◌, take}
use Rattle.std.specs.List.{flat_map}
use Rattle.mf_tree.specs.Canonical.{variant_source}
use Rattle.mf_print.proofs.message.push_variants.Given as goal

abbrev pub invariant-loop-variant : goal.invariant-loop-variant
invariant-loop-variant l = l.out ≡ l.fn.out ++ flat_map variant_source (take l.variant-index l.variant-items)
