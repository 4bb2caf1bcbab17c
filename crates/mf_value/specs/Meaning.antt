-- What a set of functions is.
use Rattle.std.specs.Prelude.{ℕ, Bool, List, Option, Some, None}
use Rattle.mf_text.specs.declared.direction.Direction.{Direction}
use Rattle.mf_tree.specs.declared.name.Identifier.{Identifier}
use Rattle.mf_value.specs.declared.called.Called.{Called}
use Rattle.mf_value.specs.declared.called.Ranked.{Ranked}
use Rattle.mf_value.specs.declared.content.Content.{Content}
use Rattle.mf_value.specs.declared.content.Content.TheVariants as content
use Rattle.mf_value.specs.declared.given.Given.{Given}
use Rattle.mf_value.specs.declared.value.Value.{Value}

-- the direction of a number, which names are known, what a call of one of them gives for an operand and its options, and
-- how well a key matches a value
pub record Meaning : Type 0 where
  pub direction : Direction
  pub known : Identifier → Bool
  pub called : Identifier → Option Value → List Given → Called
  pub rank : Value → List ℕ → Ranked

-- the operand of a call, if there is one, is a text or a number
abbrev pub IsTextOrNumber : Content → Type 0
IsTextOrNumber (content.Text text) = Unit {0}
IsTextOrNumber (content.Number amount kept) = Unit {0}
IsTextOrNumber (content.Fallback source) = ⊥

abbrev pub IsNoFallback : Option Value → Type 0
IsNoFallback None = Unit {0}
IsNoFallback (Some value) = IsTextOrNumber value.content
