use Rattle.std.proofs.Common.{◌≡◌, ◌++◌, drop}
use Rattle.std.specs.List.{flat_map}
use Rattle.mf_tree.specs.Faults.{duplicate_options, pattern_options}
use Rattle.mf_check.proofs.options.add_in_pattern.Given as goal

abbrev pub invariant-loop-piece : goal.invariant-loop-piece
invariant-loop-piece l =
    l.found ++ flat_map duplicate_options (pattern_options (drop l.piece-index l.pieces)) ≡ l.fn.found ++ flat_map duplicate_options (pattern_options l.pieces)
