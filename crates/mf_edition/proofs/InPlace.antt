-- A message put into shared items, and its index into their order, where both stay what they are.
use Rattle.std.proofs.Common.{◌≡◌, ◌++◌, ◌∷◌, [], ℕ, List, length, get_or, set, ap, sym, ◌∙◌, subst}
use Rattle.std.proofs.lemmas.List.{length-map, map-append, map-set}
use Rattle.std.specs.Arc.{arc_value}
use Rattle.std.specs.List.{insert}
use Rattle.std.specs.declared.alloc.Global.{Global}
use Rattle.std.specs.declared.sync.Arc.{Arc}
use Rattle.mf_edition.specs.Items.{Item, item_values}
use Rattle.mf_edition.specs.Edition.{put}
use Rattle.mf_edition.specs.Order.{name_of, names_of, IsFound, IsGap, IsOrder}
use Rattle.mf_edition.proofs.Placed.{found_first, found_inside, found_name, found_named, gap_unnamed, length-names, name_at-names, no_item}
use Rattle.mf_edition.proofs.Pushed.{names_kept, names_pushed, order_pushed, put_found, put_gap}

module _ (items : List (Arc Item Global)) (order : List ℕ) (item : Arc Item Global) (at : ℕ) (o : IsOrder (names_of (item_values items)) order) where
  -- one that was found is replaced
  pub put_there : IsFound (names_of (item_values items)) order (name_of (arc_value item)) at
      → item_values (set items (get_or order at 0) item) ≡ put (item_values items) (arc_value item)
  put_there found =
      let values = item_values items in
      let value = arc_value item in
      map-set arc_value items (get_or order at 0) item
      ∙ sym (put_found values value (get_or order at 0) (found_inside values order value.tag value.id o at found)
      (found_first values order value.tag value.id o at found)
      (found_named values order value.tag value.id o at found))

  pub order_there : IsFound (names_of (item_values items)) order (name_of (arc_value item)) at → IsOrder (names_of (item_values (set items (get_or order at 0) item))) order
  order_there found =
      let values = item_values items in
      let value = arc_value item in
      let place = get_or order at 0 in
      let same = sym (found_name values order value.tag value.id o at found) ∙ name_at-names values place no_item (found_inside values order value.tag value.id o at found) in
      subst (λ names. IsOrder names order) (sym (ap names_of (map-set arc_value items place item) ∙ names_kept values place value same)) o

  -- another goes to the end
  pub put_new : IsGap (names_of (item_values items)) order (name_of (arc_value item)) at
      → item_values (items ++ item ∷ []) ≡ put (item_values items) (arc_value item)
  put_new gap =
      let values = item_values items in
      let value = arc_value item in
      map-append arc_value items (item ∷ []) ∙ sym (put_gap values value (gap_unnamed values order value.tag value.id o at gap))

  pub order_new : IsGap (names_of (item_values items)) order (name_of (arc_value item)) at → IsOrder (names_of (item_values (items ++ item ∷ []))) (insert order at (length items))
  order_new gap =
      let values = item_values items in
      let value = arc_value item in
      let names = ap names_of (map-append arc_value items (item ∷ [])) ∙ names_pushed values value in
      let place = length-names values ∙ length-map items arc_value in
      subst (λ ns. IsOrder ns (insert order at (length items))) (sym names)
      (subst (λ n. IsOrder (names_of values ++ name_of value ∷ []) (insert order at n)) place (order_pushed (names_of values) order (name_of value) at o gap))
