-- For private clauses: how a message is found, which is by the indices of the messages in the ascending order of their names.
use Rattle.std.specs.Prelude.{◌≡◌, ◌<◌, ◌≤◌, ℕ, Option, None, Some, List, [], length, map, slice_get, slice_index, slice_index_or}
use Rattle.std.specs.Ordering.{ordering_then}
use Rattle.std.specs.declared.cmp.Ordering.{Ordering}
use Rattle.std.specs.declared.cmp.Ordering.TheVariants.{Less, Equal, Greater}
use Rattle.mf_text.specs.Order.{byte_cmp}
use Rattle.std.specs.declared.alloc.Global.{Global}
use Rattle.std.specs.declared.sync.Arc.{Arc}
use Rattle.mf_edition.specs.Items.{Item, item_values}

-- what a message is found by: its tag and its id
abbrev pub Name : Type 0
Name = List ℕ × List ℕ

abbrev pub name_of : Item → Name
name_of item = (item.tag, item.id)

abbrev pub names_of : List Item → List Name
names_of items = map name_of items

-- names are compared by the bytes of their tags, then of their ids
abbrev pub name_cmp : Name → Name → Ordering
name_cmp a b = ordering_then (byte_cmp a.0 b.0) (byte_cmp a.1 b.1)

abbrev pub name_at : List Name → ℕ → Name
name_at names index = slice_index_or names index ([], [])

-- the names of shared items
abbrev pub names_in : List (Arc Item Global) → List Name
names_in items = names_of (item_values items)

-- how the name at an index compares with this one; past the last index it counts as less
abbrev pub found_cmp : Name → Option Name → Ordering
found_cmp name None = Less
found_cmp name (Some other) = name_cmp other name

abbrev pub index_cmp : List Name → Name → ℕ → Ordering
index_cmp names name index = found_cmp name (slice_get names index)

-- the order has each index once, and the names ascend
pub record IsOrder (names : List Name) (order : List ℕ) : Type 0 where
  pub below : (k : ℕ) → k < length order → slice_index order k < length names
  pub ascending : (i j : ℕ) → i < j → j < length order
      → name_cmp (name_at names (slice_index order i)) (name_at names (slice_index order j)) ≡ Less
  pub complete : (k : ℕ) → k < length names → (i : ℕ) × (i < length order) × (slice_index order i ≡ k)

-- the name of the message whose index stands there in the order is this one
pub record IsFound (names : List Name) (order : List ℕ) (name : Name) (at : ℕ) : Type 0 where
  pub inside : at < length order
  pub equal : name_cmp (name_at names (slice_index order at)) name ≡ Equal

-- no message has this name, and one that had it would have to stand here in the order
pub record IsGap (names : List Name) (order : List ℕ) (name : Name) (at : ℕ) : Type 0 where
  pub within : at ≤ length order
  pub before : (k : ℕ) → k < at → name_cmp (name_at names (slice_index order k)) name ≡ Less
  pub after : (k : ℕ) → at ≤ k → k < length order
      → name_cmp (name_at names (slice_index order k)) name ≡ Greater
