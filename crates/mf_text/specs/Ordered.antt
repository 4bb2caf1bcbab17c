-- Things in an order: where one stands among them, and what one more makes of them.
use Rattle.std.specs.Prelude.{◌≡◌, ◌<◌, ◌≤◌, ℕ, List, [], ◌∷◌, length}
use Rattle.std.specs.List.{AllWithin, HoldsAt}
use Rattle.std.specs.Ordering.{match_ordering}
use Rattle.std.specs.declared.cmp.Ordering.{Ordering}
use Rattle.std.specs.declared.cmp.Ordering.TheVariants.{Less, Equal, Greater}

-- a thing among things that are in this order: it takes the place of the one that it ties with, or goes before the next higher one
abbrev pub put_ordered : {V : Type 0} → (V → V → Ordering) → V → List V → List V
put_ordered order new [] = new ∷ []
put_ordered order new (next ∷ more) = match_ordering (order new next) (new ∷ next ∷ more) (new ∷ more) (next ∷ put_ordered order new more)

-- things, one after the other, among those that are in order already
abbrev pub put_all_ordered : {V : Type 0} → (V → V → Ordering) → List V → List V → List V
put_all_ordered order sorted [] = sorted
put_all_ordered order sorted (new ∷ more) = put_all_ordered order (put_ordered order new sorted) more

-- what stands there compares as equal, and those before it as less
pub record StandsAt {S : Type 0} (compared : S → Ordering) (things : List S) (at : ℕ) : Type 0 where
  pub inside : at < length things
  pub before : AllWithin (λ thing. compared thing ≡ Less) things 0 at
  pub equal : HoldsAt (λ thing. compared thing ≡ Equal) things at

-- nothing compares as equal, and what did would have to stand there
pub record LacksAt {S : Type 0} (compared : S → Ordering) (things : List S) (at : ℕ) : Type 0 where
  pub within : at ≤ length things
  pub before : AllWithin (λ thing. compared thing ≡ Less) things 0 at
  pub after : AllWithin (λ thing. compared thing ≡ Greater) things at (length things)
