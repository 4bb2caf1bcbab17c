-- Things in the order of their keys: what a binary search finds, and what one that is put in there makes of them.
use Rattle.std.proofs.Common.{◌≡◌, ◌<◌, ◌≤◌, ◌+◌, ℕ, Result, Ok, Err, List, [], ◌∷◌, length, map, get_or, set, zero, suc, refl, ap, sym, ◌∙◌, subst, arith}
use Rattle.std.proofs.lemmas.List.Sorted.{searchable_from_sorted}
use Rattle.std.proofs.lemmas.Map.Keys.{Less-from_sorted}
use Rattle.std.specs.Cmp.{IsTotalOrder}
use Rattle.std.specs.List.{insert, AllByRecursion, AllWithin, HoldsAt}
use Rattle.std.specs.List.Sorted.{IsBinarySearchResult, IsNonDecreasingBy, IsPartitionPoint, IsSearchInRange, IsSortedBy, IsStrictlySortedBy}
use Rattle.std.specs.Ordering.{is_lt, match_ordering, ordering_index, ordering_reverse}
use Rattle.std.specs.Result.{MatchResult}
use Rattle.std.specs.declared.cmp.Ordering.{Ordering}
use Rattle.std.specs.declared.cmp.Ordering.TheVariants.{Less, Equal, Greater}
use Rattle.mf_text.specs.Ordered.{put_ordered, put_all_ordered, LacksAt, StandsAt}

-- things with one more, seen as other things that compare alike
pub map-put_ordered : {V W : Type 0} (f : V → W) (order : V → V → Ordering) (other : W → W → Ordering) → ((a b : V) → order a b ≡ other (f a) (f b))
    → (new : V) (things : List V) → map f (put_ordered order new things) ≡ put_ordered other (f new) (map f things)
map-put_ordered f order other alike new [] = refl
map-put_ordered f order other alike new (thing ∷ things) =
    elim (order new thing) as (λ o. map f (match_ordering o (new ∷ thing ∷ things) (new ∷ things) (thing ∷ put_ordered order new things)) ≡ match_ordering o (f new ∷ f thing ∷ map f things) (f new ∷ map f things) (f thing ∷ put_ordered other (f new) (map f things)))
    [ Less ↦ refl | Equal ↦ refl | Greater ↦ ap (λ rest. f thing ∷ rest) (map-put_ordered f order other alike new things) ]
    ∙ ap (λ o. match_ordering o (f new ∷ f thing ∷ map f things) (f new ∷ map f things) (f thing ∷ put_ordered other (f new) (map f things))) (alike new thing)

pub ascending_none : {V : Type 0} (order : V → V → Ordering) → IsStrictlySortedBy order []
unfolding IsStrictlySortedBy
ascending_none order = tt

module _ {S K : Type 0} (key : S → K) (cmp : K → K → Ordering) (total : IsTotalOrder cmp) (same : (a b : K) → cmp a b ≡ Equal → a ≡ b) where
  abbrev order : S → S → Ordering
  order a b = cmp (key a) (key b)

  turned : (a b : K) (o : Ordering) → cmp a b ≡ o → cmp b a ≡ ordering_reverse o
  turned a b o is = total.antisymm b a ∙ ap ordering_reverse is

  module _ (things : List S) (name : K) (up : IsStrictlySortedBy (λ a b. cmp (key a) (key b)) things) where
    ascending : (i j : ℕ) (d : S) → i < j → j < length things → cmp (key (get_or things i d)) (key (get_or things j d)) ≡ Less
    ascending i j d below inside = Less-from_sorted (λ a b. cmp (key a) (key b)) things i j d up below inside

    sorted : IsSortedBy (λ a b. is_lt (cmp (key a) (key b))) things
    sorted k d low inside = ap is_lt (turned (key (get_or things k d)) (key (get_or things (k + 1) d)) Less (ascending k (k + 1) d (omega arith) inside))

    rising : IsNonDecreasingBy (λ thing. ordering_index (cmp (key thing) name)) things
    rising = searchable_from_sorted total key things name sorted

    found : (at : ℕ) → at < length things → HoldsAt (λ thing. cmp (key thing) name ≡ Equal) things at → StandsAt (λ thing. cmp (key thing) name) things at
    found at inside equal = record {
      inside = inside;
      before = λ k d _ below. subst (λ n. cmp (key (get_or things k d)) n ≡ Less) (same (key (get_or things at d)) name (equal d)) (ascending k at d below inside);
      equal = equal;
    }

    gap : (at : ℕ) → at ≤ length things → IsPartitionPoint (λ thing. cmp (key thing) name ≡ Less) (λ thing. cmp (key thing) name ≡ Greater) things at → LacksAt (λ thing. cmp (key thing) name) things at
    gap at within parts = record { within = within; before = parts.0; after = parts.1 }

    -- a binary search finds where a thing of the key stands, or where it would have to stand
    pub search_result : (r : Result ℕ ℕ) → IsSearchInRange r (length things) → IsBinarySearchResult (λ thing. cmp (key thing) name) things r
        → MatchResult r (λ at. StandsAt (λ thing. cmp (key thing) name) things at) (λ at. LacksAt (λ thing. cmp (key thing) name) things at)
    search_result (Ok at) bound result = found at bound result
    search_result (Err at) bound result = gap at bound (result rising)

  -- the new thing takes the place of that of its key
  there : (things : List S) (new : S) (at : ℕ) → at < length things → AllWithin (λ thing. cmp (key thing) (key new) ≡ Less) things 0 at
      → HoldsAt (λ thing. cmp (key thing) (key new) ≡ Equal) things at → set things at new ≡ put_ordered (λ a b. cmp (key a) (key b)) new things
  there [] new at inside before equal = absurd (omega arith)
  there (thing ∷ things) new zero inside before equal =
      ap (λ o. match_ordering o (new ∷ thing ∷ things) (new ∷ things) (thing ∷ put_ordered order new things)) (sym (turned (key thing) (key new) Equal (equal new)))
  there (thing ∷ things) new (suc at) inside before equal =
      ap (λ rest. thing ∷ rest) (there things new at (omega arith) (λ k d low below. before (suc k) d (omega arith) (omega arith)) equal)
      ∙ ap (λ o. match_ordering o (new ∷ thing ∷ things) (new ∷ things) (thing ∷ put_ordered order new things))
      (sym (turned (key thing) (key new) Less (before 0 new (omega arith) (omega arith))))

  pub put_there : (things : List S) (new : S) (at : ℕ) → StandsAt (λ thing. cmp (key thing) (key new)) things at
      → set things at new ≡ put_ordered (λ a b. cmp (key a) (key b)) new things
  put_there things new at found = there things new at found.inside found.before found.equal

  -- another goes before that of the next higher key
  between : (things : List S) (new : S) (at : ℕ) → at ≤ length things → AllWithin (λ thing. cmp (key thing) (key new) ≡ Less) things 0 at
      → AllWithin (λ thing. cmp (key thing) (key new) ≡ Greater) things at (length things)
      → insert things at new ≡ put_ordered (λ a b. cmp (key a) (key b)) new things
  between [] new zero within before after = refl
  between [] new (suc at) within before after = absurd (omega arith)
  between (thing ∷ things) new zero within before after =
      ap (λ o. match_ordering o (new ∷ thing ∷ things) (new ∷ things) (thing ∷ put_ordered order new things))
      (sym (turned (key thing) (key new) Greater (after 0 new (omega arith) (omega arith))))
  between (thing ∷ things) new (suc at) within before after =
      ap (λ rest. thing ∷ rest) (between things new at (omega arith) (λ k d low below. before (suc k) d (omega arith) (omega arith)) (λ k d low inside. after (suc k) d (omega arith) (omega arith)))
      ∙ ap (λ o. match_ordering o (new ∷ thing ∷ things) (new ∷ things) (thing ∷ put_ordered order new things))
      (sym (turned (key thing) (key new) Less (before 0 new (omega arith) (omega arith))))

  pub put_between : (things : List S) (new : S) (at : ℕ) → LacksAt (λ thing. cmp (key thing) (key new)) things at
      → insert things at new ≡ put_ordered (λ a b. cmp (key a) (key b)) new things
  put_between things new at gap = between things new at gap.within gap.before gap.after

  -- the things are all of keys above this one
  abbrev Above : K → List S → Type 0
  Above name things = AllByRecursion (λ thing. cmp name (key thing) ≡ Less) things

  Above-more : (low name : K) (things : List S) → cmp low name ≡ Less → Above name things → Above low things
  Above-more low name [] less above = tt
  Above-more low name (thing ∷ things) less above = (total.trans low name (key thing) less above.0, Above-more low name things less above.1)

  Above-put : (name : K) (new : S) (things : List S) → Above name things → cmp name (key new) ≡ Less → Above name (put_ordered order new things)
  Above-put name new [] above less = (less, tt)
  Above-put name new (thing ∷ things) above less =
      elim (order new thing) as (λ o. Above name (match_ordering o (new ∷ thing ∷ things) (new ∷ things) (thing ∷ put_ordered order new things)))
      [ Less ↦ (less, above) | Equal ↦ (less, above.1) | Greater ↦ (above.0, Above-put name new things above.1 less) ]

  -- so they stay in order
  pub ascending_put : (new : S) (things : List S) → IsStrictlySortedBy (λ a b. cmp (key a) (key b)) things → IsStrictlySortedBy (λ a b. cmp (key a) (key b)) (put_ordered (λ a b. cmp (key a) (key b)) new things)
  unfolding IsStrictlySortedBy
  ascending_put new [] up = (tt, tt)
  ascending_put new (thing ∷ things) up = by (order new thing) refl (ascending_put new things up.1)
    where
      by : (o : Ordering) → order new thing ≡ o → IsStrictlySortedBy order (put_ordered order new things)
          → IsStrictlySortedBy order (match_ordering o (new ∷ thing ∷ things) (new ∷ things) (thing ∷ put_ordered order new things))
      by Less less rest = ((less, Above-more (key new) (key thing) things less up.0), up)
      by Equal equal rest = (subst (λ name. Above name things) (sym (same (key new) (key thing) equal)) up.0, up.1)
      by Greater greater rest = (Above-put (key thing) new things up.0 (turned (key new) (key thing) Greater greater), rest)

  pub ascending_put_all : (front news : List S) → IsStrictlySortedBy (λ a b. cmp (key a) (key b)) front → IsStrictlySortedBy (λ a b. cmp (key a) (key b)) (put_all_ordered (λ a b. cmp (key a) (key b)) front news)
  ascending_put_all front [] up = up
  ascending_put_all front (new ∷ news) up = ascending_put_all (put_ordered order new front) news (ascending_put new front up)
