-- The options so far and those that are left are all options.
use Rattle.std.proofs.Common.{◌≡◌, ◌++◌}
use Rattle.std.specs.Vec.Iter.{into_iter_items}
use Rattle.mf_resolve.specs.Settings.{named_options}
use Rattle.mf_resolve.proofs.markup.named_options.Given as goal

abbrev pub invariant-loop-option : goal.invariant-loop-option
invariant-loop-option l = record {
  can_next : (goal.iterator-loop-option).can_next l.option-iterator;
  is_finite : (goal.iterator-loop-option).is_finite l.option-iterator;
  same : named_options l.fn.given ≡ l.pairs ++ named_options (into_iter_items l.option-iterator);
}
