-- What `put` does to a list of messages and to their order.
use Rattle.std.proofs.Common.{◌≡◌, ◌<◌, ◌≤◌, ◌+◌, ◌-◌, ℕ, zero, suc, true, false, List, [], ◌∷◌, ◌++◌, length, get_or, set, refl, ap, ◌∙◌, cond, ⊎_elim, arith}
use Rattle.std.proofs.lemmas.Bool.{cases_eq, cases_lt}
use Rattle.std.proofs.lemmas.List.{get_or_append_left, length-append, map-append}
use Rattle.std.proofs.lemmas.List.Edits.{length-insert, get_or-insert_above, get_or-insert_at, get_or-insert_below}
use Rattle.std.proofs.Math.Seq.{get_or-append_seam, map-set_same}
use Rattle.std.specs.List.{insert}
use Rattle.std.specs.Ordering.{ordering_reverse}
use Rattle.std.specs.declared.cmp.Ordering.TheVariants.{Less, Greater}
use Rattle.mf_edition.specs.Items.{Item}
use Rattle.mf_edition.specs.Edition.{is_named, put}
use Rattle.mf_edition.specs.Order.{name_at, name_cmp, name_of, names_of, IsGap, IsOrder, Name}
use Rattle.mf_edition.proofs.Placed.{name_cmp_total, no_item}

-- a message that is there is replaced
pub put_found : (items : List Item) (new : Item) (at : ℕ) → at < length items
    → ((k : ℕ) → k < at → is_named new.tag new.id (get_or items k no_item) ≡ false) → is_named new.tag new.id (get_or items at no_item) ≡ true
    → put items new ≡ set items at new
put_found [] new at inside before here = absurd (omega arith)
put_found (item ∷ items) new zero inside before here = ap (λ b. cond b (new ∷ items) (item ∷ put items new)) here
put_found (item ∷ items) new (suc at) inside before here =
    ap (λ b. cond b (new ∷ items) (item ∷ put items new)) (before 0 (omega arith))
    ∙ ap (λ rest. item ∷ rest) (put_found items new at (omega arith) (λ k below. before (suc k) (omega arith)) here)

-- a new one goes to the end
pub put_gap : (items : List Item) (new : Item)
    → ((k : ℕ) → k < length items → is_named new.tag new.id (get_or items k no_item) ≡ false)
    → put items new ≡ items ++ new ∷ []
put_gap [] new none = refl
put_gap (item ∷ items) new none =
    ap (λ b. cond b (new ∷ items) (item ∷ put items new)) (none 0 (omega arith))
    ∙ ap (λ rest. item ∷ rest) (put_gap items new (λ k inside. none (suc k) (omega arith)))

-- the names stay where an item is replaced by one of the same name
pub names_kept : (items : List Item) (at : ℕ) (item : Item) → name_of item ≡ name_of (get_or items at no_item) → names_of (set items at item) ≡ names_of items
names_kept items at item same = map-set_same name_of items at item no_item same

pub names_pushed : (items : List Item) (item : Item) → names_of (items ++ item ∷ []) ≡ names_of items ++ name_of item ∷ []
names_pushed items item = map-append name_of items (item ∷ [])

at_other : (at j : ℕ) → at ≤ j → (j ≡ at → ⊥) → at < j
at_other at j le other = ⊎_elim (λ lt. lt) (λ ge. absurd (other (omega arith))) (cases_lt at j)

above_is_less : (a b : Name) → name_cmp b a ≡ Greater → name_cmp a b ≡ Less
above_is_less a b greater = name_cmp_total.antisymm a b ∙ ap ordering_reverse greater

module _ (names : List Name) (order : List ℕ) (name : Name) (at : ℕ) (o : IsOrder names order) (gap : IsGap names order name at) where
  more : List Name
  more = names ++ name ∷ []

  longer : List ℕ
  longer = insert order at (length names)

  length-longer : length longer ≡ length order + 1
  unfolding longer
  length-longer = length-insert order at (length names) gap.within

  length-more : length more ≡ length names + 1
  unfolding more
  length-more = length-append names (name ∷ [])

  -- what stands at each place of the longer order, and its name
  place_before : (k : ℕ) → k < at → get_or longer k 0 ≡ get_or order k 0
  unfolding longer
  place_before k below = get_or-insert_below order at (length names) 0 k below gap.within

  place_there : get_or longer at 0 ≡ length names
  unfolding longer
  place_there = get_or-insert_at order at (length names) 0 gap.within

  place_after : (k : ℕ) → at ≤ k → get_or longer (k + 1) 0 ≡ get_or order k 0
  unfolding longer
  place_after k above = get_or-insert_above order at (length names) 0 k above gap.within

  name_kept : (place : ℕ) → place < length names → name_at more place ≡ name_at names place
  unfolding more
  name_kept place inside = get_or_append_left names (name ∷ []) ([], []) place inside

  name_there : name_at more (length names) ≡ name
  unfolding more
  name_there = get_or-append_seam names name [] ([], [])

  name_before : (k : ℕ) → k < at → name_at more (get_or longer k 0) ≡ name_at names (get_or order k 0)
  name_before k below = let within = gap.within in ap (name_at more) (place_before k below) ∙ name_kept (get_or order k 0) (o.below k (omega arith))

  name_new : name_at more (get_or longer at 0) ≡ name
  name_new = ap (name_at more) place_there ∙ name_there

  name_after : (k : ℕ) → at ≤ k → k < length order → name_at more (get_or longer (k + 1) 0) ≡ name_at names (get_or order k 0)
  name_after k above inside = ap (name_at more) (place_after k above) ∙ name_kept (get_or order k 0) (o.below k inside)

  -- an earlier place against one past the new one
  before_later : (i j : ℕ) → i ≤ j → at ≤ j → j < length order → name_cmp (name_at more (get_or longer i 0)) (name_at names (get_or order j 0)) ≡ Less
  before_later i j le past inside =
      ⊎_elim
      (λ i_before. ap (λ n. name_cmp n (name_at names (get_or order j 0))) (name_before i i_before) ∙ o.ascending i j (omega arith) inside)
      (λ i_later. ⊎_elim
      (λ i_there.
      ap (λ k. name_cmp (name_at more (get_or longer k 0)) (name_at names (get_or order j 0))) i_there
      ∙ ap (λ n. name_cmp n (name_at names (get_or order j 0))) name_new
      ∙ above_is_less name (name_at names (get_or order j 0)) (gap.after j past inside))
      (λ i_other.
      let i_past : at < i = at_other at i i_later i_other in
      let i_is : i ≡ (i - 1) + 1 = omega arith in
      ap (λ n. name_cmp n (name_at names (get_or order j 0))) (ap (λ k. name_at more (get_or longer k 0)) i_is ∙ name_after (i - 1) (omega arith) (omega arith))
      ∙ o.ascending (i - 1) j (omega arith) inside)
      (cases_eq i at))
      (cases_lt i at)

  in_order : (i j : ℕ) → i < j → j < length longer → name_cmp (name_at more (get_or longer i 0)) (name_at more (get_or longer j 0)) ≡ Less
  in_order i j below inside =
      let long = length-longer in
      ⊎_elim
      (λ j_before.
      ap (λ n. name_cmp n (name_at more (get_or longer j 0))) (name_before i (omega arith))
      ∙ ap (name_cmp (name_at names (get_or order i 0))) (name_before j j_before)
      ∙ o.ascending i j below (let within = gap.within in omega arith))
      (λ j_later. ⊎_elim
      (λ j_there.
      ap (λ n. name_cmp n (name_at more (get_or longer j 0))) (name_before i (omega arith))
      ∙ ap (λ k. name_cmp (name_at names (get_or order i 0)) (name_at more (get_or longer k 0))) j_there
      ∙ ap (name_cmp (name_at names (get_or order i 0))) name_new
      ∙ gap.before i (omega arith))
      (λ j_other.
      let j_past : at < j = at_other at j j_later j_other in
      let j_is : j ≡ (j - 1) + 1 = omega arith in
      let j_name = ap (λ k. name_at more (get_or longer k 0)) j_is ∙ name_after (j - 1) (omega arith) (omega arith) in
      ap (name_cmp (name_at more (get_or longer i 0))) j_name ∙ before_later i (j - 1) (omega arith) (omega arith) (omega arith))
      (cases_eq j at))
      (cases_lt j at)

  all_below : (k : ℕ) → k < length longer → get_or longer k 0 < length more
  all_below k inside =
      let long = length-longer in
      let many = length-more in
      let within = gap.within in
      ⊎_elim
      (λ k_before. let low = o.below k (omega arith) in let here = place_before k k_before in omega arith)
      (λ k_later. ⊎_elim
      (λ k_there. let here = ap (λ p. get_or longer p 0) k_there ∙ place_there in omega arith)
      (λ k_other.
      let k_past : at < k = at_other at k k_later k_other in
      let k_is : k ≡ (k - 1) + 1 = omega arith in
      let low = o.below (k - 1) (omega arith) in
      let here = ap (λ p. get_or longer p 0) k_is ∙ place_after (k - 1) (omega arith) in
      omega arith)
      (cases_eq k at))
      (cases_lt k at)

  all_there : (k : ℕ) → k < length more → (i : ℕ) × (i < length longer) × (get_or longer i 0 ≡ k)
  all_there k inside =
      let long = length-longer in
      let many = length-more in
      let within = gap.within in
      ⊎_elim
      (λ old.
      let place = o.complete k old in
      let in_order : place.0 < length order = place.1 in
      ⊎_elim
      (λ low. (place.0, omega arith, place_before place.0 low ∙ place.2))
      (λ high. (place.0 + 1, omega arith, place_after place.0 high ∙ place.2))
      (cases_lt place.0 at))
      (λ new. (at, omega arith, place_there ∙ omega arith))
      (cases_lt k (length names))

  pub order_pushed : IsOrder (names ++ name ∷ []) (insert order at (length names))
  unfolding more longer
  order_pushed = record { below = all_below; ascending = in_order; complete = all_there }
