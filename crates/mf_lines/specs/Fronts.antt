-- For private clauses: the whole lines at the front of some bytes.
use Rattle.std.specs.Prelude.{◌+◌, ◌<◌, ◌≤◌, ℕ, List, [], ◌∷◌, length, take, drop, Option}
use Rattle.mf_lines.specs.Cut.{IsCut, IsOneLine}
use Rattle.mf_lines.specs.Served.{Serving}
use Rattle.mf_lines.specs.Sessions.{AnswersAll, AnswersInPart}

-- the bytes are the front of a line, or begin with one of more than so many
abbrev pub HasNoShortLine : ℕ → List ℕ → Type 0
HasNoShortLine most bytes = IsOneLine (take (most + 1) bytes)

-- a line of at most so many bytes stands in front of the line feed at a place
pub record IsLineEnd (most : ℕ) (bytes : List ℕ) (end : ℕ) : Type 0 where
  pub inside : end < length bytes
  pub cut : IsCut most bytes (take end bytes ∷ []) (drop (end + 1) bytes)

module _ {State : Type 0} (Serves : Serving State) (before after : State) (taken taken' : Option (List ℕ)) (most : ℕ) (bytes : List ℕ) where
  -- the whole lines, so many bytes with their line feeds, were answered, up to one that is too long
  pub record AnswersFront (count : ℕ) : Type 0 where
    pub within : count ≤ length bytes
    pub lines : List (List ℕ)
    pub cut : IsCut most bytes lines (drop count bytes)
    pub rest : HasNoShortLine most (drop count bytes)
    pub answers : AnswersAll Serves before after taken taken' lines

  -- some of the whole lines were answered, and of the last a front was written
  pub record StopsWithin : Type 0 where
    pub lines : List (List ℕ)
    pub rest : List ℕ
    pub cut : IsCut most bytes lines rest
    pub answers : AnswersInPart Serves before after taken taken' lines
