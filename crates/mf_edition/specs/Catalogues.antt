-- The messages of a publication, which the log and its editions share.
use Rattle.std.specs.Prelude.{◌≡◌, ◌==◌, ℕ, Bool, List, map}
use Rattle.std.specs.Arc.{arc_value}
use Rattle.std.specs.Cmp.{and_equiv, on_equiv, IsEquivalence}
use Rattle.std.specs.Cmp.Lexicographic.{lists_equiv, nat_list_eq_equiv, pointwise}
use Rattle.std.specs.List.Sorted.{IsStrictlySortedBy}
use Rattle.std.specs.Ordering.{eq_of_both, on}
use Rattle.std.specs.declared.alloc.Global.{Global}
use Rattle.std.specs.declared.cmp.Ordering.{Ordering}
use Rattle.std.specs.declared.sync.Arc.{Arc}
use Rattle.mf_text.specs.Order.{byte_cmp}
use Rattle.mf_text.specs.declared.pair.Pair.{Pair}
use Rattle.mf_text.specs.Ordered.{put_ordered, LacksAt, StandsAt}
use Rattle.mf_text.specs.Pairs.{insert_pair}
use Rattle.mf_edition.specs.Items.{Item, item_of, message_of}

-- a publication of messages: their tag, and the messages in the byte order of their ids
pub record Catalogue : Type 0 where
  pub tag : List ℕ
  pub messages : List Pair

-- a publication with one more message: of two with one id the later one counts
abbrev pub with_message : Catalogue → Pair → Catalogue
with_message catalogue message =
    record catalogue { messages = insert_pair message catalogue.messages }

-- what callers see of a tag and of items
abbrev pub catalogue_of : List ℕ → List Item → Catalogue
catalogue_of tag items = record { tag = tag; messages = map message_of items }

-- two messages have the same id and source
abbrev pub message_eq : Pair → Pair → Bool
message_eq =
    eq_of_both (on (λ message. message.name) (pointwise ◌==◌))
    (on (λ message. message.value) (pointwise ◌==◌))

-- two publications have the same tag and the same messages
abbrev pub catalogue_eq : Catalogue → Catalogue → Bool
catalogue_eq =
    eq_of_both (on (λ catalogue. catalogue.tag) (pointwise ◌==◌))
    (on (λ catalogue. catalogue.messages) (pointwise message_eq))

pub message_eq_equiv : IsEquivalence message_eq
message_eq_equiv =
    and_equiv (on_equiv (λ (message : Pair). message.name) nat_list_eq_equiv)
    (on_equiv (λ (message : Pair). message.value) nat_list_eq_equiv)

pub catalogue_eq_equiv : IsEquivalence catalogue_eq
catalogue_eq_equiv =
    and_equiv (on_equiv (λ (catalogue : Catalogue). catalogue.tag) nat_list_eq_equiv)
    (on_equiv (λ (catalogue : Catalogue). catalogue.messages) (lists_equiv message_eq_equiv))

-- the items are in the byte order of their ids, each id once
abbrev pub AreInIdOrder : List Item → Type 0
AreInIdOrder items = IsStrictlySortedBy (λ a b. byte_cmp a.id b.id) items

-- the items are all of this tag, and their ids ascend
pub record IsCatalogue (tag : List ℕ) (items : List Item) : Type 0 where
  pub tagged : map (item_of tag) (map message_of items) ≡ items
  pub ascending : AreInIdOrder items

-- an item among items that are in the byte order of their ids: of two with one id the later one counts
abbrev pub insert_item : Item → List Item → List Item
insert_item item items = put_ordered (λ a b. byte_cmp a.id b.id) item items

-- how the id of a shared item compares with this one
abbrev pub compared : List ℕ → Arc Item Global → Ordering
compared id item = byte_cmp (arc_value item).id id

-- the item that stands there has this id, and those before it have lower ones
abbrev pub IsItemAt : List (Arc Item Global) → List ℕ → ℕ → Type 0
IsItemAt items id at = StandsAt (compared id) items at

-- no item has this id, and one that had it would have to stand there
abbrev pub IsItemGap : List (Arc Item Global) → List ℕ → ℕ → Type 0
IsItemGap items id at = LacksAt (compared id) items at
