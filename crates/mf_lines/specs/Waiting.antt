-- For private clauses: the bytes that wait for an answer.
use Rattle.std.specs.Prelude.{◌≡◌, ◌⊎◌, ◌≤◌, ℕ, List, ◌++◌, length, Option}
use Rattle.std.specs.Io.KnownBytes.{Consumes, IsAtEnd}

-- the bytes that were read and not answered yet, how many there is room for behind them, and how many in all
pub record Waiting : Type 0 where
  pub bytes : List ℕ
  pub room : ℕ
  pub size : ℕ

-- a read of at most so many bytes gets room for all of them, or for at least 4,096
abbrev pub IsRoom : ℕ → ℕ → Type 0
IsRoom room most = (room ≡ most) ⊎ (4096 ≤ room) × (room ≤ most)

-- a read put some bytes behind those that wait, at most so many; none came only at the end
pub record Reads (left left' : Option (List ℕ)) (old new : List ℕ) (count most : ℕ) : Type 0 where
  pub part : List ℕ
  pub consumed : Consumes left left' part
  pub joined : new ≡ old ++ part
  pub number : count ≡ length part
  pub bound : count ≤ most
  pub end : count ≡ 0 → IsAtEnd left'
