-- The line for bytes that are a text, and for others.
use Rattle.std.proofs.Common.{◌≡◌, ◌∙◌, ap, sym, subst, Bool, true, false, List, ℕ, refl, encode_utf8_all}
use Rattle.std.proofs.lemmas.Result.{IfOk-weaker}
use Rattle.std.proofs.lemmas.Str.{encodes-chars, is_utf8-from_IsUtf8, IsUtf8-from_is_utf8}
use Rattle.std.specs.Bool.{MatchBool}
use Rattle.std.specs.Str.{chars, is_utf8, IsUtf8}
use Rattle.mf_transcript.specs.Replies.{IsLineOf, IsLintReply}
use Rattle.mf2d.specs.Lint.{bad_utf8_line, LintsInput}
use Rattle.mf2d.proofs.lint.input_line.Goals as goal

abbrev LintsSource : List ℕ → List ℕ → Type 0
LintsSource source line = IsLineOf (IsLintReply source) line

not_true : (b : Bool) → (b ≡ true → ⊥) → b ≡ false
not_true true not_so = absurd (not_so refl)
not_true false not_so = refl

text_line : (input line : List ℕ) → IsUtf8 input → LintsSource (chars input) line → LintsInput input line
text_line input line text lints = subst (λ b. MatchBool b (LintsSource (chars input) line) (line ≡ bad_utf8_line)) (sym (is_utf8-from_IsUtf8 input text)) lints

other_line : (input line : List ℕ) → (IsUtf8 input → ⊥) → line ≡ bad_utf8_line → LintsInput input line
other_line input line no_text is =
    subst (λ b. MatchBool b (LintsSource (chars input) line) (line ≡ bad_utf8_line)) (sym (not_true (is_utf8 input) (λ e. no_text (IsUtf8-from_is_utf8 input e)))) is

bad_line_text : IsUtf8 bad_utf8_line
unfolding is_utf8 chars lib.Utf8.encode
bad_line_text = IsUtf8-from_is_utf8 bad_utf8_line refl

pub returns-in-Ok : goal.returns-in-Ok
returns-in-Ok c =
    IfOk-weaker c.source_line.result _ _
    (λ line lints. text_line c.args.input.now (encode_utf8_all line) c.in-Ok.ensures.cases.1
    (subst (λ source. LintsSource (chars source) (encode_utf8_all line)) c.in-Ok.ensures.cases.0 lints))
    c.source_line.ensures

pub returns-in-Err : goal.returns-in-Err
returns-in-Err c =
    IfOk-weaker c.of.result _ _
    (λ line is. other_line c.args.input.now (encode_utf8_all line) c.in-Err.ensures.cases.0 (ap encode_utf8_all is ∙ encodes-chars bad_utf8_line bad_line_text))
    c.of.ensures
