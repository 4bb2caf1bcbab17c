-- Language tags: subtags with a hyphen (45) between them, in the general shape of BCP 47 (RFC 5646, section 2.1).
use Rattle.std.specs.Prelude.{◌≡◌, ◌==◌, ◌&&◌, ℕ, Bool, false, IsTrue, List, [], ◌∷◌, length, map, nat_le}
use Rattle.std.specs.Char.{is_ascii_alphabetic, is_ascii_alphanumeric, to_ascii_lowercase}
use Rattle.std.specs.List.{list_all, slice_split}

-- the parts of a text between its hyphens
abbrev pub subtags : List ℕ → List (List ℕ)
subtags text = slice_split (λ c. c == 45) text

-- a first subtag: 2 to 8 letters
abbrev pub is_first_subtag : List ℕ → Bool
is_first_subtag part = nat_le 2 (length part) && nat_le (length part) 8 && list_all is_ascii_alphabetic part

-- a further subtag: 1 to 8 letters or digits
abbrev pub is_further_subtag : List ℕ → Bool
is_further_subtag part = nat_le 1 (length part) && nat_le (length part) 8 && list_all is_ascii_alphanumeric part

-- the subtags of a tag: a first one, then further ones
abbrev pub are_subtags : List (List ℕ) → Bool
are_subtags [] = false
are_subtags (first ∷ further) = is_first_subtag first && list_all is_further_subtag further

-- a tag: the characters are all ASCII, so that at most 35 of them are at most 35 bytes
abbrev pub is_tag : List ℕ → Bool
is_tag text = nat_le (length text) 35 && are_subtags (subtags text)

-- a text with its letters in lower case
abbrev pub lower_case : List ℕ → List ℕ
lower_case text = map to_ascii_lowercase text

-- a tag whose letters are in lower case
pub record IsLowerTag (text : List ℕ) : Type 0 where
  pub tag : IsTrue (is_tag text)
  pub lower : lower_case text ≡ text
