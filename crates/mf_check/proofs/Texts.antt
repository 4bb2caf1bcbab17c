-- The characters of what an error is about.
use Rattle.std.proofs.Common.{◌≡◌, ◌<◌, ◌^◌, ℕ, List, [], ◌∷◌, ◌++◌, ap, ◌∙◌, arith}
use Rattle.std.proofs.lemmas.Fmt.{IsAscii-decimal}
use Rattle.std.proofs.lemmas.Str.{chars-append, chars-IsAscii, IsUtf8-append, IsUtf8-from_ascii}
use Rattle.std.proofs.lemmas.Str.Ascii.{IsAscii-cons, IsAscii-nil}
use Rattle.std.specs.Fmt.{decimal}
use Rattle.std.specs.Str.{chars, IsAscii, IsUtf8}

pub dollar : IsAscii (36 ∷ [])
dollar = IsAscii-cons 36 [] (omega arith) IsAscii-nil

pub colon : IsAscii (58 ∷ [])
colon = IsAscii-cons 58 [] (omega arith) IsAscii-nil

-- ASCII before other bytes
pub ascii_before : (front bytes : List ℕ) → IsAscii front → chars (front ++ bytes) ≡ front ++ chars bytes
ascii_before front bytes is =
    chars-append front bytes (IsUtf8-from_ascii front is)
    ∙ ap (λ cs. cs ++ chars bytes) (chars-IsAscii front is)

pub number_chars : (n : ℕ) (bytes : List ℕ) → n < 2 ^ 64 → bytes ≡ decimal n → chars bytes ≡ decimal n
number_chars n bytes few is = ap chars is ∙ chars-IsAscii (decimal n) (IsAscii-decimal n few)

-- two texts with a colon between them
pub with_colon : (a b value name : List ℕ) → IsUtf8 a → chars a ≡ value → chars b ≡ name → chars ((a ++ 58 ∷ []) ++ b) ≡ (value ++ 58 ∷ []) ++ name
with_colon a b value name utf8 a_is b_is =
    chars-append (a ++ 58 ∷ []) b (IsUtf8-append a (58 ∷ []) utf8 (IsUtf8-from_ascii (58 ∷ []) colon))
    ∙ ap (λ front. front ++ chars b) (chars-append a (58 ∷ []) utf8)
    ∙ ap (λ middle. (chars a ++ middle) ++ chars b) (chars-IsAscii (58 ∷ []) colon)
    ∙ ap (λ front. (front ++ 58 ∷ []) ++ chars b) a_is
    ∙ ap (λ back. (value ++ 58 ∷ []) ++ back) b_is
