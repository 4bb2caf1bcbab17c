-- The tags so far are those that come before the truncations of the last one.
use Rattle.std.proofs.Common.{◌≡◌, ◌++◌, length}
use Rattle.mf_locale.specs.Chain.{truncations}
use Rattle.mf_locale.proofs.lookup.chain.Given as goal

abbrev pub invariant-loop-last : goal.invariant-loop-last
invariant-loop-last l = l.tags ++ truncations l.last ≡ truncations l.fn.tag

abbrev pub decreases-loop-last : goal.decreases-loop-last
decreases-loop-last l = length l.last
