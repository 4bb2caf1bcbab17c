-- What a cursor is seen as.
use Rattle.std.specs.Prelude.{◌≡◌, ℕ, ◌-◌, List, ◌++◌, length, take}

-- a place in a text: the text's characters, and those of them that are left
pub record Place : Type 0 where
  pub whole : List ℕ
  pub left : List ℕ

-- the characters that were passed
abbrev pub passed : Place → List ℕ
passed place = take (length place.whole - length place.left) place.whole

-- the one list ends with the other
pub record EndsWith (whole left : List ℕ) : Type 0 where
  pub front : List ℕ
  pub split : whole ≡ front ++ left
