-- The ranks of the keys of variants, column by column, and the least of them: for private clauses.
use Rattle.std.specs.Prelude.{◌≡◌, ◌≢◌, ◌==◌, ◌<◌, ◌⊎◌, nat_lt, ℕ, zero, suc, Bool, true, false, List, [], drop, slice_get, Option, Some, None, if◌then◌else◌}
use Rattle.mf_value.specs.Selection.{IsLess, with_rank}
use Rattle.mf_select.specs.declared.ranks.Ranks.{Ranks}

abbrev pub joined : Option (Option ℕ) → Option ℕ
joined None = None
joined (Some rank) = rank

-- the rank at a place, if there is one
abbrev pub rank_at : List (Option ℕ) → ℕ → Option ℕ
rank_at ranks at = joined (slice_get ranks at)

-- the ranks of the variant at a place, one of each column, where each of its keys matches
abbrev pub row : ℕ → ℕ → ℕ → List (Option ℕ) → Option (List ℕ)
row zero variants place ranks = Some []
row (suc columns) variants place ranks = with_rank (rank_at ranks place) (row columns variants place (drop variants ranks))

abbrev pub row_of : Ranks → ℕ → Option (List ℕ)
row_of ranks place = row ranks.columns ranks.variants place ranks.ranks

-- whether one rank is less than another, where they differ
abbrev pub difference : Option ℕ → Option ℕ → Option Bool
difference None second = None
difference (Some rank) None = None
difference (Some rank) (Some second) = if rank == second then None else Some (nat_lt rank second)

-- a difference decides, else what comes later does
abbrev pub decided : Option Bool → Bool → Bool
decided None later = later
decided (Some less) later = less

abbrev pub is_less_from : ℕ → ℕ → ℕ → ℕ → List (Option ℕ) → Bool
is_less_from zero variants place other ranks = false
is_less_from (suc columns) variants place other ranks =
    decided (difference (rank_at ranks place) (rank_at ranks other)) (is_less_from columns variants place other (drop variants ranks))

-- the ranks of the variant at one place are less than those at another
abbrev pub is_less : Ranks → ℕ → ℕ → Bool
is_less ranks place other = is_less_from ranks.columns ranks.variants place other ranks.ranks

abbrev pub is_better : Ranks → ℕ → Option ℕ → Bool
is_better ranks place None = true
is_better ranks place (Some best) = is_less ranks place best

-- of so many places this is the first of those whose lists are least
pub record IsFirstOf (row : ℕ → Option (List ℕ)) (count best : ℕ) : Type 0 where
  pub ranks : List ℕ
  pub within : best < count
  pub matches : row best ≡ Some ranks
  pub least : (other : ℕ) (others : List ℕ) → other < count → other ≢ best → row other ≡ Some others →
      IsLess ranks others ⊎ ((ranks ≡ others) × (best < other))

-- the same, if there is one
abbrev pub IsBest : (ℕ → Option (List ℕ)) → ℕ → Option ℕ → Type 0
IsBest row count None = (place : ℕ) → place < count → row place ≡ None
IsBest row count (Some best) = IsFirstOf row count best
