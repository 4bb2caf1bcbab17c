-- What a binary search in the order finds.
use Rattle.std.proofs.Common.{false, [], ◌≡◌, ◌<◌, ◌≤◌, ◌+◌, ℕ, List, Result, Ok, Err, length, get_or, ap, sym, ◌∙◌, subst, arith}
use Rattle.std.proofs.lemmas.List.Sorted.{searchable_from_sorted}
use Rattle.std.proofs.lemmas.List.{get_or-map, get_or_default, length-map}
use Rattle.std.specs.Arc.{arc_value}
use Rattle.std.specs.declared.sync.Arc.{Arc}
use Rattle.std.specs.declared.alloc.Global.{Global}
use Rattle.mf_edition.specs.Items.{Item, item_values}
use Rattle.std.proofs.lemmas.Option.{slice_get-get_or, slice_get_past}
use Rattle.std.specs.List.Sorted.{IsBinarySearchResult, IsNonDecreasingBy, IsPartitionPoint, IsSearchInRange, IsSortedBy}
use Rattle.std.specs.Ordering.{is_lt, ordering_index, ordering_reverse}
use Rattle.std.specs.Result.{MatchResult}
use Rattle.std.specs.declared.cmp.Ordering.TheVariants.{Less, Equal, Greater}
use Rattle.mf_edition.specs.Order.{found_cmp, name_at, name_cmp, name_of, names_of, index_cmp, IsOrder, IsFound, IsGap, Name}
use Rattle.mf_edition.proofs.Placed.{name_at-names, name_cmp_total}

-- a comparison at a place is one with the name at that place
index_cmp-at : (names : List Name) (name : Name) (place : ℕ) → place < length names → index_cmp names name place ≡ name_cmp (name_at names place) name
index_cmp-at names name place inside = ap (found_cmp name) (slice_get-get_or names place ([], []) inside)

not_less : (a b : Name) → name_cmp a b ≡ Less → is_lt (name_cmp b a) ≡ false
not_less a b less = ap is_lt (name_cmp_total.antisymm b a ∙ ap ordering_reverse less)

module _ (names : List Name) (order : List ℕ) (name : Name) (o : IsOrder names order) where
  -- the reads of a list do not depend on the default within it
  at_default : (k d : ℕ) → k < length order → get_or order k d ≡ get_or order k 0
  at_default k d inside = get_or_default order k d 0 inside

  sorted : IsSortedBy (λ a b. is_lt (name_cmp (name_at names a) (name_at names b))) order
  sorted k d low inside =
      let here = at_default k d (omega arith) in
      let next = at_default (k + 1) d inside in
      let less = o.ascending k (k + 1) (omega arith) inside in
      ap (λ p. is_lt (name_cmp (name_at names p) (name_at names (get_or order k d)))) next
      ∙ ap (λ p. is_lt (name_cmp (name_at names (get_or order (k + 1) 0)) (name_at names p))) here
      ∙ not_less (name_at names (get_or order k 0)) (name_at names (get_or order (k + 1) 0)) less

  compared : (k d : ℕ) → k < length order → index_cmp names name (get_or order k d) ≡ name_cmp (name_at names (get_or order k 0)) name
  compared k d inside = ap (index_cmp names name) (at_default k d inside) ∙ index_cmp-at names name (get_or order k 0) (o.below k inside)

  rising : IsNonDecreasingBy (λ place. ordering_index (index_cmp names name place)) order
  rising i j d up inside =
      let first = ap ordering_index (compared i d (omega arith)) in
      let second = ap ordering_index (compared j d inside) in
      let le = searchable_from_sorted name_cmp_total (name_at names) order name sorted i j 0 up inside in
      omega (arith, first, second, le)

  found : (at : ℕ) → at < length order → index_cmp names name (get_or order at 0) ≡ Equal → IsFound names order name at
  found at inside equal = record { inside = inside; equal = sym (compared at 0 inside) ∙ equal }

  gap : (at : ℕ) → at ≤ length order → IsPartitionPoint (λ y. index_cmp names name y ≡ Less) (λ y. index_cmp names name y ≡ Greater) order at → IsGap names order name at
  gap at within parts = record {
    within = within;
    before = λ k below. sym (compared k 0 (omega arith)) ∙ parts.0 k 0 (omega arith) below;
    after = λ k above inside. sym (compared k 0 inside) ∙ parts.1 k 0 above inside;
  }

  pub search_result : (r : Result ℕ ℕ) → IsSearchInRange r (length order) → IsBinarySearchResult (index_cmp names name) order r → MatchResult r (λ at. IsFound names order name at) (λ at. IsGap names order name at)
  search_result (Ok at) bound result = found at bound (result 0)
  search_result (Err at) bound result = gap at bound (result rising)

-- a comparison with a shared item
pub compared_item : (items : List (Arc Item Global)) (place : ℕ) (item : Arc Item Global) (name : Name) → place < length items → item ≡ get_or items place item → index_cmp (names_of (item_values items)) name place ≡ name_cmp (name_of (arc_value item)) name
compared_item items place item name inside read =
    let in_values : place < length (item_values items) = subst (λ n. place < n) (sym (length-map items arc_value)) inside in
    let in_names : place < length (names_of (item_values items)) = subst (λ n. place < n) (sym (length-map (item_values items) name_of)) in_values in
    index_cmp-at (names_of (item_values items)) name place in_names
    ∙ ap (λ n. name_cmp n name) (name_at-names (item_values items) place (arc_value item) in_values
    ∙ ap name_of (get_or-map arc_value items place item (arc_value item) inside ∙ ap arc_value (sym read)))

pub compared_past : (items : List (Arc Item Global)) (place : ℕ) (name : Name) → length items ≤ place → index_cmp (names_of (item_values items)) name place ≡ Less
compared_past items place name past =
    ap (found_cmp name) (slice_get_past (names_of (item_values items)) place (subst (λ n. n ≤ place) (sym (length-map (item_values items) name_of ∙ length-map items arc_value)) past))
