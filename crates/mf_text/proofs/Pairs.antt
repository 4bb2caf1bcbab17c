-- Pairs in the byte order of their names: the laws of Ordered for them.
use Rattle.std.proofs.Common.{◌≡◌, ℕ, Result, List, [], length, set, ap, ◌∙◌}
use Rattle.std.specs.Cmp.Lexicographic.{bytes_decides}
use Rattle.std.specs.List.{insert}
use Rattle.std.specs.List.Sorted.{IsBinarySearchResult, IsSearchInRange}
use Rattle.std.specs.Ordering.{is_eq}
use Rattle.std.specs.Result.{MatchResult}
use Rattle.std.specs.declared.cmp.Ordering.TheVariants.{Equal}
use Rattle.mf_text.specs.Order.{byte_cmp, byte_cmp_total, byte_cmp_ties}
use Rattle.mf_text.specs.Ordered.{LacksAt, StandsAt}
use Rattle.mf_text.specs.Pairs.{insert_pair, in_byte_order, AreInByteOrder}
use Rattle.mf_text.specs.declared.pair.Pair.{Pair}
use Rattle.mf_text.proofs.Ordered as ordered

-- texts that tie are the same
pub byte_equal : (a b : List ℕ) → byte_cmp a b ≡ Equal → a ≡ b
byte_equal a b equal = (bytes_decides a b).0 (byte_cmp_ties a b ∙ ap is_eq equal)

abbrev name_of : Pair → List ℕ
name_of pair = pair.name

pub search_result : (pairs : List Pair) (name : List ℕ) → AreInByteOrder pairs → (r : Result ℕ ℕ) → IsSearchInRange r (length pairs)
    → IsBinarySearchResult (λ pair. byte_cmp pair.name name) pairs r
    → MatchResult r (λ at. StandsAt (λ pair. byte_cmp pair.name name) pairs at) (λ at. LacksAt (λ pair. byte_cmp pair.name name) pairs at)
search_result = ordered.search_result name_of byte_cmp byte_cmp_total byte_equal

pub put_there : (pairs : List Pair) (new : Pair) (at : ℕ) → StandsAt (λ (pair : Pair). byte_cmp pair.name new.name) pairs at → set pairs at new ≡ insert_pair new pairs
put_there = ordered.put_there name_of byte_cmp byte_cmp_total byte_equal

pub put_between : (pairs : List Pair) (new : Pair) (at : ℕ) → LacksAt (λ (pair : Pair). byte_cmp pair.name new.name) pairs at → insert pairs at new ≡ insert_pair new pairs
put_between = ordered.put_between name_of byte_cmp byte_cmp_total byte_equal

pub ascending_none : AreInByteOrder []
ascending_none = ordered.ascending_none (λ (a b : Pair). byte_cmp a.name b.name)

pub ascending_put : (new : Pair) (pairs : List Pair) → AreInByteOrder pairs → AreInByteOrder (insert_pair new pairs)
ascending_put = ordered.ascending_put name_of byte_cmp byte_cmp_total byte_equal

-- what is put into order is in order
pub ascending_all : (pairs : List Pair) → AreInByteOrder (in_byte_order pairs)
ascending_all pairs = ordered.ascending_put_all name_of byte_cmp byte_cmp_total byte_equal [] pairs ascending_none
