-- For private clauses: callers that have left.
use Rattle.std.specs.Prelude.{◌≡◌, ℕ, List, [], ◌∷◌, length, map, Some}
use Rattle.std.specs.List.{AllByRecursion}
use Rattle.mf_edition.specs.declared.change.Entry.{Entry}
use Rattle.mf_hub.specs.Passes.{Closes, Grows, Keeps, Known}
use Rattle.mf_lines.specs.Cut.{IsOneLine}
use Rattle.mf_lines.specs.Served.{written}
use Rattle.mf_rehearse.specs.Played.{ended_of, Part, PlaysInto}
use Rattle.mf_rehearse.specs.Scripts.{callers_in}
use Rattle.mf_rehearse.specs.declared.leaving.Kept.{Kept}

-- the replies that are kept are those of these callers
abbrev pub Matches : List Kept → List Part → Type 0
Matches [] [] = Unit {0}
Matches [] (part ∷ parts) = ⊥
Matches (kept ∷ more) [] = ⊥
Matches (kept ∷ more) (part ∷ parts) =
    (kept.number ≡ part.number) × (kept.replies.taken ≡ written part.replies) × Matches more parts

-- callers that sent their requests among these lines left into caller 0, which made nothing
pub record Left (lines : List (List ℕ)) (home : Known) (kept : List Kept) : Type 0 where
  pub number : home.number ≡ Some 0
  pub made : home.made ≡ 0
  pub given : home.given ≡ 0
  pub parts : List Part
  pub ended : home.ended ≡ map ended_of parts
  pub plays : AllByRecursion (PlaysInto lines home.log home.heard) parts
  pub matches : Matches kept parts

-- and they are all
pub record HaveLeft (lines : List (List ℕ)) (home : Known) (kept : List Kept) : Type 0 where
  pub left : Left lines home kept
  pub many : length kept ≡ callers_in lines

-- the log at the end, once the caller has seen more
pub record ClosesLater (p : Known) (log : List Entry) : Type 0 where
  pub last : Known
  pub grows : Grows p last
  pub keeps : Keeps p last
  pub closes : Closes last log

-- each caller's replies are lines
abbrev pub AreLines : List Part → Type 0
AreLines parts = AllByRecursion (λ part. AllByRecursion IsOneLine part.replies) parts
