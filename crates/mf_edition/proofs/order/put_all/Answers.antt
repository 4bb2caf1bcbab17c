use Rattle.std.proofs.Common.{length, ap, arith}
use Rattle.std.proofs.lemmas.List.{length-map}
use Rattle.std.specs.Arc.{arc_value}
use Rattle.std.specs.Vec.Iter.{into_iter_items}
use Rattle.mf_edition.specs.Items.{item_values}
use Rattle.mf_edition.proofs.Growth.{length-put_all}
use Rattle.mf_edition.proofs.order.put_all.Goals as goal

pub put-requires-clause-few : goal.put-requires-clause-few
put-requires-clause-few c =
    let count = length-map c.loop-item.items.items arc_value in
    let grown = (length-put_all (item_values c.loop-item.items.items) (item_values (into_iter_items c.loop-item.item-iterator))).0 in
    let same = ap length c.loop-item.invariant.same in
    let few = c.requires.few in
    omega arith
