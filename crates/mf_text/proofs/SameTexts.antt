-- Tests of texts, by their bytes and by their characters.
use Rattle.std.proofs.Common.{◌≡◌, ℕ, List, ap, sym, ◌∙◌, nat_eq}
use Rattle.std.proofs.lemmas.Str.{encodes-chars}
use Rattle.std.specs.Cmp.{both_ways}
use Rattle.std.specs.Cmp.Lexicographic.{pointwise, bytes_decides}
use Rattle.std.specs.Prelude.{chars, encode_utf8_all}
use Rattle.std.specs.Str.{IsUtf8}

-- two texts have the same bytes exactly where they have the same characters
pub same_tests : (a b : List ℕ) → IsUtf8 a → IsUtf8 b → pointwise nat_eq a b ≡ pointwise nat_eq (chars a) (chars b)
same_tests a b a_text b_text =
    both_ways _ _
    (λ e. (bytes_decides (chars a) (chars b)).1 (ap chars ((bytes_decides a b).0 e)))
    (λ e. (bytes_decides a b).1
    (sym (encodes-chars a a_text)
    ∙ ap encode_utf8_all ((bytes_decides (chars a) (chars b)).0 e)
    ∙ encodes-chars b b_text))
