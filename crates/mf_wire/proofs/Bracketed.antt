-- The values of a list, written one by one between brackets.
use Rattle.std.proofs.Common.{◌≡◌, ℕ, List, ◌∷◌, ◌++◌, drop, map}
use Rattle.json.specs.Token.{Token, begin_array}
use Rattle.json.specs.Tree.{items_tokens}
use Rattle.json.specs.Written.{Written}
use Rattle.serde_json.specs.Data.{Data}
use Rattle.serde_json.specs.View.{items_of}
use Rattle.serde_json.specs.Written.{items_outline}

-- the tokens of these members' values and of the bracket that closes their array
abbrev pub items_left : {M : Type 0} → (M → Data) → List M → List Token
items_left value members = items_tokens (items_outline (items_of (map value members)))

-- with the members from i on, and the closing bracket, the array will be whole
abbrev pub WritesItems : {M : Type 0} → (M → Data) → List M → ℕ → Written → Written → Type 0
WritesItems value members i old new =
    (new.tokens ++ items_left value (drop i members) ≡ old.tokens ++ begin_array ∷ items_left value members) × (new.before ≡ old.before)
