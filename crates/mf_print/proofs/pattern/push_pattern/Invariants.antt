use Rattle.std.proofs.Common.{◌≡◌, ◌++◌, take}
use Rattle.std.specs.List.{flat_map}
use Rattle.mf_tree.specs.Canonical.{piece_source}
use Rattle.mf_print.proofs.pattern.push_pattern.Given as goal

abbrev pub invariant-loop-piece : goal.invariant-loop-piece
invariant-loop-piece l = l.out ≡ l.fn.out ++ flat_map piece_source (take l.piece-index l.piece-items)
