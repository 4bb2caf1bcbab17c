-- Shared things in the order of their keys, seen as the things: the laws of Ordered for them.
use Rattle.std.proofs.Common.{◌≡◌, ℕ, Result, List, [], ◌∷◌, length, map, set, refl, ap, ◌∙◌}
use Rattle.std.specs.Arc.{arc_value}
use Rattle.std.specs.Cmp.{IsTotalOrder}
use Rattle.std.specs.List.{insert, AllByRecursion}
use Rattle.std.specs.List.Sorted.{IsBinarySearchResult, IsSearchInRange, IsStrictlySortedBy}
use Rattle.std.specs.Result.{MatchResult}
use Rattle.std.specs.declared.alloc.Global.{Global}
use Rattle.std.specs.declared.cmp.Ordering.{Ordering}
use Rattle.std.specs.declared.cmp.Ordering.TheVariants.{Less, Equal}
use Rattle.std.specs.declared.sync.Arc.{Arc}
use Rattle.mf_text.specs.Ordered.{put_ordered, LacksAt, StandsAt}
use Rattle.mf_text.proofs.Ordered as ordered

above_seen : {S V : Type 0} (f : S → V) (order : V → V → Ordering) (low : S) (things : List S) → AllByRecursion (λ thing. order (f low) thing ≡ Less) (map f things) → AllByRecursion (λ thing. order (f low) (f thing) ≡ Less) things
above_seen f order low [] above = tt
above_seen f order low (thing ∷ things) above = (above.0, above_seen f order low things above.1)

-- things are in order where they are, as they are seen
pub ascending_seen : {S V : Type 0} (f : S → V) (order : V → V → Ordering) (things : List S) → IsStrictlySortedBy order (map f things) → IsStrictlySortedBy (λ a b. order (f a) (f b)) things
unfolding IsStrictlySortedBy
ascending_seen f order [] up = tt
ascending_seen f order (thing ∷ things) up = (above_seen f order thing things up.0, ascending_seen f order things up.1)

module _ {V K : Type 0} (key : V → K) (cmp : K → K → Ordering) (total : IsTotalOrder cmp) (same : (a b : K) → cmp a b ≡ Equal → a ≡ b) where
  abbrev key_of : Arc V Global → K
  key_of thing = key (arc_value thing)

  pub search_result : (things : List (Arc V Global)) (name : K) → IsStrictlySortedBy (λ a b. cmp (key a) (key b)) (map arc_value things)
      → (r : Result ℕ ℕ) → IsSearchInRange r (length things) → IsBinarySearchResult (λ thing. cmp (key (arc_value thing)) name) things r
      → MatchResult r (λ at. StandsAt (λ thing. cmp (key (arc_value thing)) name) things at) (λ at. LacksAt (λ thing. cmp (key (arc_value thing)) name) things at)
  search_result things name up r bound result =
      ordered.search_result key_of cmp total same things name (ascending_seen arc_value (λ a b. cmp (key a) (key b)) things up) r bound result

  seen : (new : Arc V Global) (things : List (Arc V Global)) → map arc_value (put_ordered (λ a b. cmp (key_of a) (key_of b)) new things) ≡ put_ordered (λ a b. cmp (key a) (key b)) (arc_value new) (map arc_value things)
  seen new things = ordered.map-put_ordered arc_value (λ a b. cmp (key_of a) (key_of b)) (λ a b. cmp (key a) (key b)) (λ a b. refl) new things

  -- the new thing takes the place of that of its key
  pub put_there : (things : List (Arc V Global)) (new : Arc V Global) (at : ℕ) → StandsAt (λ thing. cmp (key (arc_value thing)) (key (arc_value new))) things at
      → map arc_value (set things at new) ≡ put_ordered (λ a b. cmp (key a) (key b)) (arc_value new) (map arc_value things)
  put_there things new at found = ap (map arc_value) (ordered.put_there key_of cmp total same things new at found) ∙ seen new things

  -- another goes before that of the next higher key
  pub put_between : (things : List (Arc V Global)) (new : Arc V Global) (at : ℕ) → LacksAt (λ thing. cmp (key (arc_value thing)) (key (arc_value new))) things at
      → map arc_value (insert things at new) ≡ put_ordered (λ a b. cmp (key a) (key b)) (arc_value new) (map arc_value things)
  put_between things new at gap = ap (map arc_value) (ordered.put_between key_of cmp total same things new at gap) ∙ seen new things
