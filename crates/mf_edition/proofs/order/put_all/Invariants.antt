use Rattle.std.proofs.Common.{◌≡◌, ◌≤◌, ◌+◌, length}
use Rattle.std.specs.Vec.{vec_capacity, vec_len}
use Rattle.std.specs.Vec.Iter.{into_iter_items}
use Rattle.mf_edition.specs.Items.{item_values}
use Rattle.mf_edition.specs.Order.{names_of, IsOrder}
use Rattle.mf_edition.specs.Edition.{put_all}
use Rattle.mf_edition.proofs.order.put_all.Given as goal

abbrev pub invariant-loop-item : goal.invariant-loop-item
invariant-loop-item l = record {
  can_next : (goal.iterator-loop-item).can_next l.item-iterator;
  is_finite : (goal.iterator-loop-item).is_finite l.item-iterator;
  ordered : IsOrder (names_of (item_values l.items.items)) l.order.items;
  same : put_all (item_values l.items.items) (item_values (into_iter_items l.item-iterator)) ≡ put_all (item_values l.fn.items.items) (item_values l.fn.new.items);
  items_fit : vec_len l.items + length (into_iter_items l.item-iterator) ≤ vec_capacity l.items;
  indices_fit : vec_len l.order + length (into_iter_items l.item-iterator) ≤ vec_capacity l.order;
}
