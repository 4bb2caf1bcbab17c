-- Whose each line of an input is.
use Rattle.std.specs.Prelude.{ℕ, ◌-◌, ◌==◌, ◌&&◌, Bool, false, nat_le, max, List, [], ◌∷◌, if◌then◌else◌}

-- the line begins with a digit from 1 to 8 and a space
abbrev pub is_named : List ℕ → Bool
is_named [] = false
is_named (digit ∷ []) = false
is_named (digit ∷ space ∷ rest) = (space == 32) && (nat_le 49 digit && nat_le digit 56)

-- the number that the first byte spells
abbrev pub digit_of : List ℕ → ℕ
digit_of [] = 0
digit_of (digit ∷ rest) = digit - 48

-- what follows the digit and the space
abbrev pub behind_name : List ℕ → List ℕ
behind_name [] = []
behind_name (digit ∷ []) = []
behind_name (digit ∷ space ∷ rest) = rest

-- whose the line is: that of the caller which it names, or else caller 1's
abbrev pub caller_of : List ℕ → ℕ
caller_of line = if is_named line then digit_of line else 1

-- what its caller asks
abbrev pub request_in : List ℕ → List ℕ
request_in line = if is_named line then behind_name line else line

-- the requests of a caller, in their order
abbrev pub requests_of : ℕ → List (List ℕ) → List (List ℕ)
requests_of caller [] = []
requests_of caller (line ∷ lines) =
    if caller_of line == caller then request_in line ∷ requests_of caller lines else requests_of caller lines

-- the greatest caller of a line, or this number, if that is greater
abbrev pub greatest : ℕ → List (List ℕ) → ℕ
greatest most [] = most
greatest most (line ∷ lines) = greatest (max most (caller_of line)) lines

-- how many callers there are: as many as the greatest, and at least two
abbrev pub callers_in : List (List ℕ) → ℕ
callers_in lines = greatest 2 lines
