-- By the number of words.
use Rattle.std.proofs.Common.{◌≡◌, ℕ, ◌<◌, ◌≤◌, List, [], ◌∷◌, length, get_or, None, ap, ◌∙◌, arith, refl}
use Rattle.std.specs.Prelude.{encode_utf8_all}
use Rattle.mf2d.specs.Commands.{command_of, command_counted, command_named}
use Rattle.mf2d.proofs.command.command_of.Goals as goal

one_word : (words : List (List ℕ)) (word : List ℕ) → 1 ≤ length words → length words < 2
    → word ≡ get_or words 0 word → command_named word ≡ command_of words
one_word [] word some few is = absurd (omega arith)
one_word (first ∷ []) word some few is = ap command_named is
one_word (first ∷ next ∷ words) word some few is = absurd (omega arith)

no_word : (words : List (List ℕ)) → length words < 1 → None ≡ command_of words
no_word [] none = refl
no_word (first ∷ words) none = absurd (omega arith)

two_words : (words : List (List ℕ)) (word number : List ℕ) → 2 ≤ length words → length words < 3
    → word ≡ get_or words 0 word → number ≡ get_or words 1 number → command_counted word (encode_utf8_all number) ≡ command_of words
two_words [] word number some few is other = absurd (omega arith)
two_words (first ∷ []) word number some few is other = absurd (omega arith)
two_words (first ∷ next ∷ []) word number some few is other =
    ap (λ w. command_counted w (encode_utf8_all number)) is ∙ ap (λ n. command_counted first (encode_utf8_all n)) other
two_words (first ∷ next ∷ more ∷ words) word number some few is other = absurd (omega arith)

many_words : (words : List (List ℕ)) → 3 ≤ length words → None ≡ command_of words
many_words [] many = absurd (omega arith)
many_words (first ∷ []) many = absurd (omega arith)
many_words (first ∷ next ∷ []) many = absurd (omega arith)
many_words (first ∷ next ∷ more ∷ words) many = refl

pub returns-in-len1 : goal.returns-in-len1
returns-in-len1 c =
    c.command_named.ensures
    ∙ ap command_named c.as_str.ensures.characters
    ∙ one_word c.as_slice.result.now c.word-item.result c.in-len1.len_at_least c.in-len1.len_below c.word-item.is
    ∙ ap command_of c.as_slice.ensures

pub returns-in-len2 : goal.returns-in-len2
returns-in-len2 c =
    c.command_counted.ensures
    ∙ ap (λ w. command_counted w c.as_str-in-len2-2.result.now) c.as_str-in-len2.ensures.characters
    ∙ ap (command_counted c.word-item-then-this-lt3.result) c.as_str-in-len2-2.ensures.bytes
    ∙ two_words c.as_slice.result.now c.word-item-then-this-lt3.result c.number-item.result c.in-len2.len_at_least c.in-len2.len_below
    c.word-item-then-this-lt3.is c.number-item.is
    ∙ ap command_of c.as_slice.ensures

pub returns-in_default : goal.returns-in_default
returns-in_default c = no_word c.as_slice.result.now c.in_default.len_below ∙ ap command_of c.as_slice.ensures

pub returns-in_default-2 : goal.returns-in_default-2
returns-in_default-2 c = many_words c.as_slice.result.now c.in_default.len_at_least ∙ ap command_of c.as_slice.ensures
