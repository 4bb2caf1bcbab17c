-- What holds of every input.
use Rattle.std.specs.Prelude.{◌≡◌, ◌⊎◌, ℕ, List}
use Rattle.mf_lines.specs.Cut.{IsCut, IsLine, IsTooLong}

-- an input is cut in one way into whole lines and what follows them: the front of a line, or a line that is too long
abbrev pub CutsAreUnique : Type 0
CutsAreUnique =
    (most : ℕ) (input rest other : List ℕ) (lines others : List (List ℕ))
    → IsCut most input lines rest → IsLine most rest ⊎ IsTooLong most rest
    → IsCut most input others other → IsLine most other ⊎ IsTooLong most other
    → (lines ≡ others) × (rest ≡ other)
