-- Sums and counts over lists, and beginnings of lists.
use Rattle.std.specs.Prelude.{◌≡◌, ℕ, ◌+◌, ◌==◌, nat_lt, List, [], ◌∷◌, ◌++◌, Bool, true, false, Option, Some, None}

abbrev pub one_if : Bool → ℕ
one_if true = 1
one_if false = 0

-- how often n stands in the list
abbrev pub times : ℕ → List ℕ → ℕ
times n [] = 0
times n (x ∷ xs) = one_if (x == n) + times n xs

-- once where n is below k, else never
abbrev pub once_below : ℕ → ℕ → ℕ
once_below n k = one_if (nat_lt n k)

module _ {X : Type 0} where
  -- the values of f, added up
  abbrev pub total : (X → ℕ) → List X → ℕ
  total f [] = 0
  total f (x ∷ xs) = f x + total f xs

  abbrev pub Each : (X → Type 0) → List X → Type 0
  Each P [] = Unit {0}
  Each P (x ∷ xs) = P x × Each P xs

  abbrev pub listed : Option X → List X
  listed None = []
  listed (Some x) = x ∷ []

  -- the list begins with this one
  abbrev pub StartsWith : List X → List X → Type 0
  StartsWith whole front = (rest : List X) × (front ++ rest ≡ whole)

  -- there is something, and this holds of it
  abbrev pub HasSome : Option X → (X → Type 0) → Type 0
  HasSome o P = (x : X) × (o ≡ Some x) × P x
