-- By the number of words.
use Rattle.std.proofs.Common.{◌≡◌, ℕ, ◌<◌, ◌≤◌, List, [], ◌∷◌, length, get_or, None, ap, ◌∙◌, arith, refl}
use Rattle.std.specs.Prelude.{encode_utf8_all}
use Rattle.mf2d.specs.Shared.{shared_command_limited, shared_command_named, shared_command_of}
use Rattle.mf2d.proofs.shared.shared_command_of.Goals as goal

one_word : (words : List (List ℕ)) (word : List ℕ) → 1 ≤ length words → length words < 2
    → word ≡ get_or words 0 word → shared_command_named word ≡ shared_command_of words
one_word [] word some few is = absurd (omega arith)
one_word (first ∷ []) word some few is = ap shared_command_named is
one_word (first ∷ next ∷ words) word some few is = absurd (omega arith)

no_word : (words : List (List ℕ)) → length words < 1 → None ≡ shared_command_of words
no_word [] none = refl
no_word (first ∷ words) none = absurd (omega arith)

two_words : (words : List (List ℕ)) → 2 ≤ length words → length words < 3 → None ≡ shared_command_of words
two_words [] some few = absurd (omega arith)
two_words (first ∷ []) some few = absurd (omega arith)
two_words (first ∷ next ∷ []) some few = refl
two_words (first ∷ next ∷ more ∷ words) some few = absurd (omega arith)

three_words : (words : List (List ℕ)) (word address limit : List ℕ) → 3 ≤ length words → length words < 4
    → word ≡ get_or words 0 word → address ≡ get_or words 1 address → limit ≡ get_or words 2 limit
    → shared_command_limited word (encode_utf8_all address) (encode_utf8_all limit) ≡ shared_command_of words
three_words [] word address limit some few is at end = absurd (omega arith)
three_words (first ∷ []) word address limit some few is at end = absurd (omega arith)
three_words (first ∷ next ∷ []) word address limit some few is at end = absurd (omega arith)
three_words (first ∷ next ∷ last ∷ []) word address limit some few is at end =
    ap (λ w. shared_command_limited w (encode_utf8_all address) (encode_utf8_all limit)) is
    ∙ ap (λ a. shared_command_limited first (encode_utf8_all a) (encode_utf8_all limit)) at
    ∙ ap (λ n. shared_command_limited first (encode_utf8_all next) (encode_utf8_all n)) end
three_words (first ∷ next ∷ last ∷ more ∷ words) word address limit some few is at end = absurd (omega arith)

many_words : (words : List (List ℕ)) → 4 ≤ length words → None ≡ shared_command_of words
many_words [] many = absurd (omega arith)
many_words (first ∷ []) many = absurd (omega arith)
many_words (first ∷ next ∷ []) many = absurd (omega arith)
many_words (first ∷ next ∷ last ∷ []) many = absurd (omega arith)
many_words (first ∷ next ∷ last ∷ more ∷ words) many = refl

pub returns-in-len1 : goal.returns-in-len1
returns-in-len1 c =
    c.shared_command_named.ensures
    ∙ ap shared_command_named c.as_str.ensures.characters
    ∙ one_word c.as_slice.result.now c.word-item.result c.in-len1.len_at_least c.in-len1.len_below c.word-item.is
    ∙ ap shared_command_of c.as_slice.ensures

pub returns-in-len3 : goal.returns-in-len3
returns-in-len3 c =
    let word = c.word-item-then-this-lt4 in
    let address = c.address-item in
    let limit = c.limit-item in
    c.shared_command_limited.ensures
    ∙ ap (λ w. shared_command_limited w c.as_str-in-len3-2.result.now c.as_str-in-len3-3.result.now) c.as_str-in-len3.ensures.characters
    ∙ ap (λ a. shared_command_limited word.result a c.as_str-in-len3-3.result.now) c.as_str-in-len3-2.ensures.bytes
    ∙ ap (shared_command_limited word.result (encode_utf8_all address.result)) c.as_str-in-len3-3.ensures.bytes
    ∙ three_words c.as_slice.result.now word.result address.result limit.result c.in-len3.len_at_least c.in-len3.len_below word.is address.is limit.is
    ∙ ap shared_command_of c.as_slice.ensures

pub returns-in_default : goal.returns-in_default
returns-in_default c = no_word c.as_slice.result.now c.in_default.len_below ∙ ap shared_command_of c.as_slice.ensures

pub returns-in_default-2 : goal.returns-in_default-2
returns-in_default-2 c = two_words c.as_slice.result.now c.in_default.len_at_least c.in_default.len_below ∙ ap shared_command_of c.as_slice.ensures

pub returns-in_default-3 : goal.returns-in_default-3
returns-in_default-3 c = many_words c.as_slice.result.now c.in_default.len_at_least ∙ ap shared_command_of c.as_slice.ensures
