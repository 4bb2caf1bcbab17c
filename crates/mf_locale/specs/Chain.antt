-- The tags in which something is looked up, one after the other: the truncations of RFC 4647, section 3.4, then `und`.
use Rattle.std.specs.Prelude.{◌==◌, ℕ, Option, None, Some, List, [], ◌∷◌, ◌++◌, map, if◌then◌else◌}
use Rattle.std.specs.Cmp.Lexicographic.{pointwise}
use Rattle.std.specs.List.{join_with_byte}
use Rattle.mf_locale.specs.Tag.{subtags}

-- the tag that stands for no language in particular
abbrev pub und : List ℕ
und = 117 ∷ 110 ∷ 100 ∷ []

-- the fronts of a list that aren't empty, the longest first
abbrev pub fronts : List (List ℕ) → List (List (List ℕ))
fronts [] = []
fronts (part ∷ parts) = map (λ front. part ∷ front) (fronts parts) ++ (part ∷ []) ∷ []

-- the tag, the tag with its last subtag dropped, and so on down to its first subtag
abbrev pub truncations : List ℕ → List (List ℕ)
truncations tag = map (join_with_byte 45) (fronts (subtags tag))

-- the truncations of a tag, if there is one
abbrev pub each_truncation : Option (List ℕ) → List (List ℕ)
each_truncation None = []
each_truncation (Some tag) = truncations tag

-- the tags, then `und` where it isn't the last one already
abbrev pub ending_in_und : List (List ℕ) → List (List ℕ)
ending_in_und [] = und ∷ []
ending_in_und (tag ∷ []) = if pointwise ◌==◌ tag und then tag ∷ [] else (tag ∷ und ∷ [])
ending_in_und (tag ∷ next ∷ more) = tag ∷ ending_in_und (next ∷ more)

-- the chain of a tag
abbrev pub chain_of : List ℕ → List (List ℕ)
chain_of tag = ending_in_und (truncations tag)

-- the chain of a tag, if there is one
abbrev pub each_chain : Option (List ℕ) → List (List ℕ)
each_chain None = []
each_chain (Some tag) = chain_of tag
