-- For private clauses: what is left behind a separator, and behind white space.
use Rattle.std.specs.Prelude.{◌≡◌, ℕ, ◌+◌, false, List, [], ◌∷◌, length, Option, Some, None}
use Rattle.mf_plural.specs.declared.token.Separator.{Separator}
use Rattle.mf_plural.specs.declared.token.Token.{Token}
use Rattle.mf_plural.specs.Grammar.{between, is_white}

-- the pieces of what is left, if anything is
abbrev pub between_rest : Separator → Option (List Token) → List (List Token)
between_rest separator None = []
between_rest separator (Some tokens) = between separator tokens

-- how much is left: more than nothing where a list is, be it empty
abbrev pub rest_len : Option (List Token) → ℕ
rest_len None = 0
rest_len (Some tokens) = length tokens + 1

-- no white space stands first
abbrev pub BeginsWithToken : List ℕ → Type 0
BeginsWithToken [] = Unit {0}
BeginsWithToken (c ∷ cs) = is_white c ≡ false
