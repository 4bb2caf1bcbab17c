use Rattle.std.proofs.Common.{◌≡◌, ◌++◌, drop}
use Rattle.std.specs.List.{flat_map}
use Rattle.mf_tree.specs.Faults.{duplicate_options, variant_options}
use Rattle.mf_check.proofs.options.add_in_variants.Given as goal

abbrev pub invariant-loop-variant : goal.invariant-loop-variant
invariant-loop-variant l =
    l.found ++ flat_map duplicate_options (flat_map variant_options (drop l.variant-index l.variants)) ≡ l.fn.found ++ flat_map duplicate_options (flat_map variant_options l.variants)
