-- The parts so far and those that come of the parts that are left are those of all parts.
use Rattle.std.proofs.Common.{◌≡◌, ◌++◌}
use Rattle.std.specs.Vec.Iter.{into_iter_items}
use Rattle.mf_parts.specs.Isolation.{isolated}
use Rattle.mf_parts.proofs.isolation.isolate.Given as goal

abbrev pub invariant-loop-part : goal.invariant-loop-part
invariant-loop-part l = record {
  can_next : (goal.iterator-loop-part).can_next l.part-iterator;
  is_finite : (goal.iterator-loop-part).is_finite l.part-iterator;
  same : isolated l.message l.fn.parts ≡ l.done ++ isolated l.message (into_iter_items l.part-iterator);
}
