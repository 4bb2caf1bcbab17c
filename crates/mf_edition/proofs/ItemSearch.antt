-- The items of a publication in the byte order of their ids.
use Rattle.std.proofs.Common.{◌≡◌, ℕ, Result, List, [], length, map, set, refl, ap, ◌∙◌}
use Rattle.std.specs.Arc.{arc_value}
use Rattle.std.specs.List.{insert}
use Rattle.std.specs.List.Sorted.{IsBinarySearchResult, IsSearchInRange}
use Rattle.std.specs.Result.{MatchResult}
use Rattle.std.specs.declared.alloc.Global.{Global}
use Rattle.std.specs.declared.sync.Arc.{Arc}
use Rattle.mf_text.specs.Order.{byte_cmp, byte_cmp_total}
use Rattle.mf_text.specs.declared.pair.Pair.{Pair}
use Rattle.mf_edition.specs.Catalogues.{compared, insert_item, AreInIdOrder, IsCatalogue, IsItemAt, IsItemGap}
use Rattle.mf_edition.specs.Items.{Item, item_of, item_values, message_of}
use Rattle.mf_text.specs.Pairs.{insert_pair}
use Rattle.mf_text.proofs.Ordered as ordered
use Rattle.mf_text.proofs.Shared as shared
use Rattle.mf_text.proofs.Pairs.{byte_equal}

abbrev id_of : Item → List ℕ
id_of item = item.id

pub search_result : (items : List (Arc Item Global)) (id : List ℕ) → AreInIdOrder (item_values items)
    → (r : Result ℕ ℕ) → IsSearchInRange r (length items) → IsBinarySearchResult (compared id) items r → MatchResult r (λ at. IsItemAt items id at) (λ at. IsItemGap items id at)
search_result = shared.search_result id_of byte_cmp byte_cmp_total byte_equal

pub put_there : (items : List (Arc Item Global)) (new : Arc Item Global) (at : ℕ) → IsItemAt items (arc_value new).id at → item_values (set items at new) ≡ insert_item (arc_value new) (item_values items)
put_there = shared.put_there id_of byte_cmp byte_cmp_total byte_equal

pub put_between : (items : List (Arc Item Global)) (new : Arc Item Global) (at : ℕ) → IsItemGap items (arc_value new).id at → item_values (insert items at new) ≡ insert_item (arc_value new) (item_values items)
put_between = shared.put_between id_of byte_cmp byte_cmp_total byte_equal

-- items with one more are the messages with one more
pub messages_inserted : (item : Item) (items : List Item) → map message_of (insert_item item items) ≡ insert_pair (message_of item) (map message_of items)
messages_inserted = ordered.map-put_ordered message_of (λ a b. byte_cmp a.id b.id) (λ a b. byte_cmp a.name b.name) (λ a b. refl)

items_inserted : (tag : List ℕ) (message : Pair) (messages : List Pair) → map (item_of tag) (insert_pair message messages) ≡ insert_item (item_of tag message) (map (item_of tag) messages)
items_inserted tag = ordered.map-put_ordered (item_of tag) (λ a b. byte_cmp a.name b.name) (λ a b. byte_cmp a.id b.id) (λ a b. refl)

-- so a catalogue stays one
pub catalogue_inserted : (new : Item) (items : List Item) → IsCatalogue new.tag items → IsCatalogue new.tag (insert_item new items)
catalogue_inserted new items c = record {
  tagged =
      ap (map (item_of new.tag)) (messages_inserted new items)
      ∙ items_inserted new.tag (message_of new) (map message_of items)
      ∙ ap (insert_item new) c.tagged;
  ascending = ordered.ascending_put id_of byte_cmp byte_cmp_total byte_equal new items c.ascending;
}

pub catalogue_none : (tag : List ℕ) → IsCatalogue tag []
catalogue_none tag = record { tagged = refl; ascending = ordered.ascending_none (λ a b. byte_cmp a.id b.id) }
