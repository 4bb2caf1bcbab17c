-- What is found step by step, and where nothing is.
use Rattle.std.proofs.Common.{◌≡◌, ℕ, Some, None, List, ◌∙◌}
use Rattle.mf_lex.specs.Computed.{after_space}
use Rattle.mf_tree.specs.declared.name.Name.{Name}
use Rattle.mf_tree.specs.declared.expression.Expression.{Expression}
use Rattle.mf_tree.specs.declared.pattern.Piece.{Piece}
use Rattle.mf_tree.specs.declared.message.Key.{Key}
use Rattle.mf_tree.specs.declared.expression.Operand.TheVariants as Operands
use Rattle.mf_parse.specs.Computed.{variable_at, rest_of_expression_at, inside, quoted_pattern_at, input_node, input_at, key_at, keys_at, variant_node, variant_at, variants_at}
use Rattle.mf_parse.proofs.Finding.{followed_by, followed_none, behind_by, made_by}

pub input_found : (name : Name) (expression : Expression) (cs p1 p2 left : List ℕ) → inside (after_space cs) ≡ Some p1 → variable_at p1 ≡ Some (name, p2) → rest_of_expression_at (Operands.Variable name) p2 ≡ Some (expression, left) → input_at cs ≡ Some (input_node name expression, left)
unfolding input_at
input_found name expression cs p1 p2 left h1 h2 h3 =
    behind_by _ _ p1 h1
    ∙ followed_by _ _ name p2 h2
    ∙ made_by _ _ expression left h3

pub variant_found : (keys : List Key) (pattern : List Piece) (cs p1 left : List ℕ) → keys_at cs ≡ Some (keys, p1) → quoted_pattern_at (after_space p1) ≡ Some (pattern, left) → variant_at cs ≡ Some (variant_node keys pattern, left)
unfolding variant_at
variant_found keys pattern cs p1 left h1 h2 =
    followed_by _ _ keys p1 h1
    ∙ made_by _ _ pattern left h2

pub keys_none_1 : (cs : List ℕ) → key_at cs ≡ None → keys_at cs ≡ None
unfolding keys_at
keys_none_1 cs h1 =
    followed_none _ _ h1

pub variants_none_1 : (cs : List ℕ) → variant_at cs ≡ None → variants_at cs ≡ None
unfolding variants_at
variants_none_1 cs h1 =
    followed_none _ _ h1
