-- Texts are compared by the bytes of their UTF-8.
use Rattle.std.specs.Prelude.{◌≡◌, ℕ, List, encode_utf8_all, nat_eq}
use Rattle.std.proofs.Common.{ap, ◌∙◌}
use Rattle.std.proofs.lemmas.Cmp.{on_total}
use Rattle.std.proofs.lemmas.Str.{encodes_same}
use Rattle.std.specs.Cmp.{IsTotalOrder, both_ways}
use Rattle.std.specs.Cmp.Lexicographic.{slice_cmp, pointwise, bytes_decides, texts_ties, nat_list_cmp_total}
use Rattle.std.specs.Ordering.{eq_by_cmp, nat_cmp}
use Rattle.std.specs.declared.cmp.Ordering.{Ordering}

-- the byte order of two texts, given by their characters
abbrev pub byte_cmp : List ℕ → List ℕ → Ordering
byte_cmp a b = slice_cmp nat_cmp (encode_utf8_all a) (encode_utf8_all b)

pub byte_cmp_total : IsTotalOrder byte_cmp
byte_cmp_total = on_total encode_utf8_all nat_list_cmp_total

-- two texts have the same characters exactly where their bytes are the same
same_bytes : (a b : List ℕ) → pointwise nat_eq a b ≡ pointwise nat_eq (encode_utf8_all a) (encode_utf8_all b)
same_bytes a b =
    let chars_decide = bytes_decides a b in
    let bytes_decide = bytes_decides (encode_utf8_all a) (encode_utf8_all b) in
    both_ways _ _ (λ e. bytes_decide.1 (ap encode_utf8_all (chars_decide.0 e))) (λ e. chars_decide.1 (encodes_same a b (bytes_decide.0 e)))

pub byte_cmp_ties : (a b : List ℕ) → pointwise nat_eq a b ≡ eq_by_cmp byte_cmp a b
byte_cmp_ties a b = same_bytes a b ∙ texts_ties (encode_utf8_all a) (encode_utf8_all b)
