use Rattle.std.proofs.Common.{◌≡◌, ◌+◌, take}
use Rattle.mf_edition.specs.Sizes.{pairs_size, shown}
use Rattle.mf_edition.proofs.size.with_pairs.Given as goal

abbrev pub invariant-loop-pair : goal.invariant-loop-pair
invariant-loop-pair l = l.total ≡ shown (l.fn.size + pairs_size (take l.pair-index l.pairs))
