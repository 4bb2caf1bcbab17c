-- A word is ASCII text, so its characters are its bytes.
use Rattle.std.proofs.Common.{◌≡◌, ◌∙◌, ℕ, List, ap, nat_eq, refl}
use Rattle.std.specs.Cmp.Lexicographic.{pointwise}
use Rattle.std.specs.Prelude.{codes}
use Rattle.std.proofs.lemmas.Str.{IsUtf8-from_is_utf8}
use Rattle.std.specs.Str.{bytes_eq, chars, IsUtf8, is_utf8}
use Rattle.mf_text.proofs.SameTexts.{same_tests}

rehearse_chars : chars (codes "rehearse") ≡ codes "rehearse"
unfolding chars
rehearse_chars = refl

rehearse_text : IsUtf8 (codes "rehearse")
unfolding is_utf8 chars lib.Utf8.encode
rehearse_text = IsUtf8-from_is_utf8 (codes "rehearse") refl

serve_chars : chars (codes "serve") ≡ codes "serve"
unfolding chars
serve_chars = refl

serve_text : IsUtf8 (codes "serve")
unfolding is_utf8 chars lib.Utf8.encode
serve_text = IsUtf8-from_is_utf8 (codes "serve") refl

-- the tests on the bytes of a word are those on its characters
pub is_rehearse : (word : List ℕ) → IsUtf8 word → pointwise nat_eq word (codes "rehearse") ≡ bytes_eq (chars word) (codes "rehearse")
is_rehearse word text = same_tests word (codes "rehearse") text rehearse_text ∙ ap (pointwise nat_eq (chars word)) rehearse_chars

pub is_serve : (word : List ℕ) → IsUtf8 word → pointwise nat_eq word (codes "serve") ≡ bytes_eq (chars word) (codes "serve")
is_serve word text = same_tests word (codes "serve") text serve_text ∙ ap (pointwise nat_eq (chars word)) serve_chars
