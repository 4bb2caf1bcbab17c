use Rattle.std.proofs.Common.{◌≡◌}
use Rattle.std.specs.Vec.Iter.{into_iter_items}
use Rattle.mf_edition.specs.Edition.{found_along}
use Rattle.mf_edition.proofs.edition.Edition.find_along.Given as goal

abbrev pub invariant-loop-tag : goal.invariant-loop-tag
invariant-loop-tag l = record {
  can_next : (goal.iterator-loop-tag).can_next l.tag-iterator;
  is_finite : (goal.iterator-loop-tag).is_finite l.tag-iterator;
  still : found_along l.self.items l.id (into_iter_items l.tag-iterator) ≡ found_along l.self.items l.id l.fn.chain;
}
