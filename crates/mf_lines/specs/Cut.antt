-- What was taken of an input: whole lines, each with its line feed, and what follows them.
use Rattle.std.specs.Prelude.{◌≡◌, ◌+◌, ◌<◌, ◌≤◌, ◌==◌, ℕ, false, List, ◌++◌, length, take}
use Rattle.std.specs.List.{list_any, AllByRecursion}
use Rattle.mf_wire.specs.Lines.{line_feed}
use Rattle.mf_lines.specs.Served.{written}

-- there is no line feed among the bytes
abbrev pub IsOneLine : List ℕ → Type 0
IsOneLine bytes = list_any (λ byte. byte == line_feed) bytes ≡ false

-- the bytes are a line, or the front of one, of at most so many
pub record IsLine (most : ℕ) (bytes : List ℕ) : Type 0 where
  pub short : length bytes ≤ most
  pub one : IsOneLine bytes

-- the bytes begin with a line of more than so many
pub record IsTooLong (most : ℕ) (bytes : List ℕ) : Type 0 where
  pub long : most < length bytes
  pub one : IsOneLine (take (most + 1) bytes)

-- an input is lines of at most so many bytes, each with its line feed, and what follows them
pub record IsCut (most : ℕ) (input : List ℕ) (lines : List (List ℕ)) (rest : List ℕ) : Type 0 where
  pub whole : input ≡ written lines ++ rest
  pub each : AllByRecursion (IsLine most) lines
