-- Names with their values in the byte order of the names, each name once.
use Rattle.std.specs.Prelude.{List, []}
use Rattle.std.specs.declared.cmp.Ordering.{Ordering}
use Rattle.std.specs.List.Sorted.{IsStrictlySortedBy}
use Rattle.mf_text.specs.Order.{byte_cmp}
use Rattle.mf_text.specs.Ordered.{put_ordered, put_all_ordered}
use Rattle.mf_text.specs.declared.pair.Pair.{Pair}

-- pairs are compared by the byte order of their names
abbrev pub name_order : Pair → Pair → Ordering
name_order a b = byte_cmp a.name b.name

-- a pair among pairs that are in the byte order of their names: of two with one name the later one counts
abbrev pub insert_pair : Pair → List Pair → List Pair
insert_pair pair pairs = put_ordered (λ a b. byte_cmp a.name b.name) pair pairs

-- pairs, one after the other, among those that are in order already
abbrev pub insert_pairs : List Pair → List Pair → List Pair
insert_pairs sorted pairs = put_all_ordered (λ a b. byte_cmp a.name b.name) sorted pairs

-- pairs in the byte order of their names, each name once: of equal names the last one counts
abbrev pub in_byte_order : List Pair → List Pair
in_byte_order pairs = insert_pairs [] pairs

-- the names ascend in their byte order, so no two are equal
abbrev pub AreInByteOrder : List Pair → Type 0
AreInByteOrder pairs = IsStrictlySortedBy (λ a b. byte_cmp a.name b.name) pairs
