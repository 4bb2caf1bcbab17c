-- A text after something was put at its end, by its characters.
use Rattle.std.proofs.Common.{◌≡◌, ℕ, List, [], ◌∷◌, ◌++◌, ap, sym, ◌∙◌, chars, Result, Ok, Err, cond}
use Rattle.std.proofs.lemmas.List.{append-nil}
use Rattle.std.proofs.lemmas.Str.{chars-nil, chars_past_char, chars-append, IsUtf8-encode}
use Rattle.std.specs.Char.{IsScalar}
use Rattle.std.specs.Prelude.{encode_utf8, OnErr, OnOk}
use Rattle.std.specs.Result.{is_ok}
use Rattle.std.specs.Str.{IsUtf8}

pub one_character : (c : ℕ) → IsScalar c → chars (encode_utf8 c) ≡ c ∷ []
one_character c scalar =
    chars_past_char (encode_utf8 c) [] c (IsUtf8-encode c scalar) (sym (append-nil (encode_utf8 c))) ∙ ap (λ cs. c ∷ cs) chars-nil

-- what a push leaves, where it succeeds
module _ {E : Type 0} where
  pub pushed_text : (r : Result (Unit {0}) E) (seen old new text : List ℕ) → chars old ≡ seen → IsUtf8 old → new ≡ cond (is_ok r) (old ++ text) old →
      OnOk r (chars new ≡ seen ++ chars text)
  pushed_text (Ok u) seen old new text sees is_text is = ap chars is ∙ chars-append old text is_text ∙ ap (λ cs. cs ++ chars text) sees
  pushed_text (Err e) seen old new text sees is_text is = tt

  pub pushed_character : (r : Result (Unit {0}) E) (seen old new : List ℕ) (c : ℕ) → chars old ≡ seen → IsUtf8 old → IsScalar c →
      new ≡ cond (is_ok r) (old ++ encode_utf8 c) old → OnOk r (chars new ≡ seen ++ c ∷ [])
  pushed_character (Ok u) seen old new c sees is_text scalar is =
      ap chars is ∙ chars-append old (encode_utf8 c) is_text ∙ ap (λ cs. chars old ++ cs) (one_character c scalar) ∙ ap (λ cs. cs ++ c ∷ []) sees
  pushed_character (Err e) seen old new c sees is_text scalar is = tt

  -- a push that fails leaves the text as it was
  pub not_pushed : (r : Result (Unit {0}) E) (seen old new more : List ℕ) → chars old ≡ seen → new ≡ cond (is_ok r) (old ++ more) old → OnErr r (chars new ≡ seen)
  not_pushed (Ok u) seen old new more sees is = tt
  not_pushed (Err e) seen old new more sees is = ap chars is ∙ sees
