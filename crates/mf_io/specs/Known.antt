-- What a call that may stop partway did to the bytes of a sink or of a source, where those are told.
use Rattle.std.specs.Prelude.{◌≡◌, ℕ, ◌<◌, ◌≤◌, List, ◌++◌, length, Option}
use Rattle.std.specs.Io.KnownBytes.{Appends, Consumes}

-- a front of the bytes was appended, and their rest was not
pub record TakesFront (old new : Option (List ℕ)) (bytes : List ℕ) : Type 0 where
  pub sent : List ℕ
  pub unsent : List ℕ
  pub whole : sent ++ unsent ≡ bytes
  pub appended : Appends old new sent

-- some list of exactly n bytes was consumed
pub record ConsumesJust (n : ℕ) (old new : Option (List ℕ)) : Type 0 where
  pub bytes : List ℕ
  pub count : length bytes ≡ n
  pub consumed : Consumes old new bytes

-- some list of at most n bytes was consumed
pub record ConsumesAtMost (n : ℕ) (old new : Option (List ℕ)) : Type 0 where
  pub bytes : List ℕ
  pub count : length bytes ≤ n
  pub consumed : Consumes old new bytes

-- some list of fewer than n bytes was consumed
pub record ConsumesBelow (n : ℕ) (old new : Option (List ℕ)) : Type 0 where
  pub bytes : List ℕ
  pub count : length bytes < n
  pub consumed : Consumes old new bytes
