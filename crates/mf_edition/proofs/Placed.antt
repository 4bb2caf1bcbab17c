-- Names in order, and what stands where.
use Rattle.std.proofs.Common.{◌≡◌, ◌&&◌, ◌<◌, ℕ, Bool, true, false, List, [], length, get_or, refl, ap, sym, ◌∙◌, subst, cond, arith, nat_eq, nat_lt, ⊎_elim, Some, None}
use Rattle.std.proofs.lemmas.Cmp.{on_total, then_total, tied_itself}
use Rattle.std.proofs.lemmas.Bool.{cases_lt}
use Rattle.std.proofs.lemmas.Bool.Decides.{nat_tests}
use Rattle.std.proofs.lemmas.List.{get_or-map, length-map}
use Rattle.std.proofs.lemmas.List.Sums.{position_or_len_is}
use Rattle.std.specs.Cmp.{Equal-is, IsTotalOrder}
use Rattle.std.specs.Cmp.Lexicographic.{pointwise}
use Rattle.std.specs.List.{position}
use Rattle.std.specs.Ordering.{ordering_then, is_eq}
use Rattle.std.specs.declared.cmp.Ordering.{Ordering}
use Rattle.std.specs.declared.cmp.Ordering.TheVariants.{Less, Equal, Greater}
use Rattle.mf_text.specs.Order.{byte_cmp, byte_cmp_total, byte_cmp_ties}
use Rattle.mf_text.proofs.Pairs.{byte_equal}
use Rattle.mf_edition.specs.Items.{Item}
use Rattle.mf_edition.specs.Edition.{is_named}
use Rattle.mf_edition.specs.Order.{name_at, name_cmp, name_of, names_of, IsFound, IsGap, IsOrder, Name}

pub name_cmp_total : IsTotalOrder name_cmp
name_cmp_total = then_total (on_total (λ name. name.0) byte_cmp_total) (on_total (λ name. name.1) byte_cmp_total)

-- an item has a name exactly where it compares as equal
pub ordering_both : (o p : Ordering) → is_eq (ordering_then o p) ≡ (is_eq o && is_eq p)
ordering_both Less p = refl
ordering_both Equal p = refl
ordering_both Greater p = refl

pub is_named-cmp : (tag id : List ℕ) (item : Item) → is_named tag id item ≡ is_eq (name_cmp (name_of item) (tag, id))
is_named-cmp tag id item =
    ap (λ t. t && pointwise nat_eq item.id id) (byte_cmp_ties item.tag tag)
    ∙ ap (λ t. is_eq (byte_cmp item.tag tag) && t) (byte_cmp_ties item.id id)
    ∙ sym (ordering_both (byte_cmp item.tag tag) (byte_cmp item.id id))

-- names that compare as equal are the same
pub then_equal : (o p : Ordering) → ordering_then o p ≡ Equal → (o ≡ Equal) × (p ≡ Equal)
then_equal Less p e = cc
then_equal Equal p e = (refl, e)
then_equal Greater p e = cc

pub same_name : (a b : Name) → name_cmp a b ≡ Equal → a ≡ b
same_name a b e =
    let parts = then_equal (byte_cmp a.0 b.0) (byte_cmp a.1 b.1) e in
    let tags = byte_equal a.0 b.0 parts.0 in
    let ids = byte_equal a.1 b.1 parts.1 in
    λ i. (tags i, ids i)

pub same_cmp : (a b : Name) → a ≡ b → name_cmp a b ≡ Equal
same_cmp a b e = subst (λ n. name_cmp a n ≡ Equal) e (tied_itself name_cmp_total a)

pub has_name : (tag id : List ℕ) (item : Item) → is_named tag id item ≡ true → name_of item ≡ (tag, id)
has_name tag id item named = same_name (name_of item) (tag, id) ((Equal-is (name_cmp (name_of item) (tag, id))).0 (sym (is_named-cmp tag id item) ∙ named))

pub named_by : (tag id : List ℕ) (item : Item) → name_of item ≡ (tag, id) → is_named tag id item ≡ true
named_by tag id item same = is_named-cmp tag id item ∙ ap is_eq (same_cmp (name_of item) (tag, id) same)

not_true : (b : Bool) → (b ≡ true → ⊥) → b ≡ false
not_true true never = absurd (never refl)
not_true false never = refl

-- a place is that of one name alone
apart : (a b : ℕ) → (a < b → ⊥) → (b < a → ⊥) → a ≡ b
apart a b not_below not_above =
    ⊎_elim (λ below. absurd (not_below below)) (λ above. ⊎_elim (λ below. absurd (not_above below)) (λ same. omega arith) (cases_lt b a)) (cases_lt a b)

never_less : (a b : Name) → a ≡ b → name_cmp a b ≡ Less → ⊥
never_less a b same less = let equal = same_cmp a b same in cc

ordered_apart : (names : List Name) (order : List ℕ) → IsOrder names order → (a b : ℕ) → a < length order → b < length order → name_at names (get_or order a 0) ≡ name_at names (get_or order b 0) → a ≡ b
ordered_apart names order o a b in_a in_b same =
    apart a b
    (λ below. never_less _ _ same (o.ascending a b below in_b))
    (λ above. never_less _ _ (sym same) (o.ascending b a above in_a))

pub one_place : (names : List Name) (order : List ℕ) → IsOrder names order → (i j : ℕ) → i < length names → j < length names → name_at names i ≡ name_at names j → i ≡ j
one_place names order o i j in_i in_j same =
    let a = o.complete i in_i in
    let b = o.complete j in_j in
    let at = ordered_apart names order o a.0 b.0 a.1 b.1 (ap (name_at names) a.2 ∙ same ∙ ap (name_at names) (sym b.2)) in
    sym a.2 ∙ ap (λ k. get_or order k 0) at ∙ b.2

-- the names of items at their places
pub name_at-names : (items : List Item) (k : ℕ) (d : Item) → k < length items → name_at (names_of items) k ≡ name_of (get_or items k d)
name_at-names items k d inside = get_or-map name_of items k d ([], []) inside

pub length-names : (items : List Item) → length (names_of items) ≡ length items
length-names items = length-map items name_of

position_at : (p : Item → Bool) (items : List Item) (at : ℕ) (d : Item) → at < length items → ((k : ℕ) → k < at → p (get_or items k d) ≡ false) → p (get_or items at d) ≡ true → position p items ≡ Some at
position_at p items at d inside before here =
    let place = position_or_len_is p items at d (omega arith) before (λ _. here) in
    let test : nat_lt at (length items) ≡ true = grind (arith, nat_tests) in
    ap (λ n. cond (nat_lt n (length items)) (Some n) None) place ∙ ap (λ b. cond b (Some at) None) test

position_none : (p : Item → Bool) (items : List Item) (d : Item) → ((k : ℕ) → k < length items → p (get_or items k d) ≡ false) → position p items ≡ None
position_none p items d none =
    let place = position_or_len_is p items (length items) d (omega arith) none (λ inside. absurd (omega arith)) in
    let test : nat_lt (length items) (length items) ≡ false = grind (arith, nat_tests) in
    ap (λ n. cond (nat_lt n (length items)) (Some n) None) place ∙ ap (λ b. cond b (Some (length items)) None) test

pub no_item : Item
no_item = record { tag = []; id = []; source = [] }

module _ (items : List Item) (order : List ℕ) (tag id : List ℕ) (o : IsOrder (names_of items) order) where
  -- the place that was found has the name
  pub found_inside : (at : ℕ) → IsFound (names_of items) order (tag, id) at → get_or order at 0 < length items
  found_inside at found = let below = o.below at found.inside in let long = length-names items in omega arith

  pub found_name : (at : ℕ) → IsFound (names_of items) order (tag, id) at → name_at (names_of items) (get_or order at 0) ≡ (tag, id)
  found_name at found = same_name _ _ found.equal

  pub found_named : (at : ℕ) → IsFound (names_of items) order (tag, id) at → is_named tag id (get_or items (get_or order at 0) no_item) ≡ true
  found_named at found =
      named_by tag id (get_or items (get_or order at 0) no_item)
      (sym (name_at-names items (get_or order at 0) no_item (found_inside at found)) ∙ found_name at found)

  -- no earlier place has it
  pub found_first : (at : ℕ) → IsFound (names_of items) order (tag, id) at → (k : ℕ) → k < get_or order at 0 → is_named tag id (get_or items k no_item) ≡ false
  found_first at found k below =
      not_true (is_named tag id (get_or items k no_item))
      (λ named.
      let inside = found_inside at found in
      let long = length-names items in
      let in_items : k < length items = omega arith in
      let same = name_at-names items k no_item in_items ∙ has_name tag id (get_or items k no_item) named ∙ sym (found_name at found) in
      let one = one_place (names_of items) order o k (get_or order at 0) (omega arith) (omega arith) same in
      absurd (omega arith))

  pub position_found : (at : ℕ) → IsFound (names_of items) order (tag, id) at → position (is_named tag id) items ≡ Some (get_or order at 0)
  position_found at found = position_at (is_named tag id) items (get_or order at 0) no_item (found_inside at found) (found_first at found) (found_named at found)

  -- none has it
  pub gap_unnamed : (at : ℕ) → IsGap (names_of items) order (tag, id) at → (k : ℕ) → k < length items → is_named tag id (get_or items k no_item) ≡ false
  gap_unnamed at gap k inside =
      not_true (is_named tag id (get_or items k no_item))
      (λ named.
      let long = length-names items in
      let place = o.complete k (omega arith) in
      let same : name_at (names_of items) (get_or order place.0 0) ≡ (tag, id) =
      ap (name_at (names_of items)) place.2 ∙ name_at-names items k no_item inside ∙ has_name tag id (get_or items k no_item) named in
      let equal = same_cmp (name_at (names_of items) (get_or order place.0 0)) (tag, id) same in
      ⊎_elim
      (λ below. let less = gap.before place.0 below in cc)
      (λ above. let greater = gap.after place.0 above place.1 in cc)
      (cases_lt place.0 at))

  pub position_gap : (at : ℕ) → IsGap (names_of items) order (tag, id) at → position (is_named tag id) items ≡ None
  position_gap at gap = position_none (is_named tag id) items no_item (gap_unnamed at gap)
