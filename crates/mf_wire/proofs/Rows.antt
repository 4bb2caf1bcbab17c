-- The members of an object, written one by one between braces: those of a row, and names with their texts.
use Rattle.std.proofs.Common.{◌≡◌, ℕ, List, ◌∷◌, ◌++◌, drop}
use Rattle.json.specs.Token.{Token, begin_object}
use Rattle.json.specs.Tree.{members_tokens}
use Rattle.json.specs.Written.{Written}
use Rattle.serde_json.specs.Written.{members_outline}
use Rattle.mf_text.specs.declared.pair.Pair.{Pair}
use Rattle.mf_wire.specs.Parts.{pair_members}
use Rattle.mf_wire.specs.Writing.{row_members}
use Rattle.mf_wire.specs.declared.row.Member.{Member}

-- the tokens of these members and of the brace that closes their object
abbrev pub row_left : List Member → List Token
row_left row = members_tokens (members_outline (row_members row))

abbrev pub pairs_left : List Pair → List Token
pairs_left pairs = members_tokens (members_outline (pair_members pairs))

-- with the members from i on, and the closing brace, the object will be whole
abbrev pub WritesRow : List Member → ℕ → Written → Written → Type 0
WritesRow row i old new = (new.tokens ++ row_left (drop i row) ≡ old.tokens ++ begin_object ∷ row_left row) × (new.before ≡ old.before)

abbrev pub WritesPairs : List Pair → ℕ → Written → Written → Type 0
WritesPairs pairs i old new = (new.tokens ++ pairs_left (drop i pairs) ≡ old.tokens ++ begin_object ∷ pairs_left pairs) × (new.before ≡ old.before)
