use Rattle.std.proofs.Common.{ap, ◌∙◌, nat_eq}
use Rattle.std.proofs.lemmas.Str.{IsUtf8-string_bytes}
use Rattle.std.specs.Cmp.Lexicographic.{pointwise}
use Rattle.std.specs.Prelude.{chars, string_bytes}
use Rattle.mf_text.proofs.SameTexts.{same_tests}
use Rattle.mf_text.proofs.text.TextPartialEq.eq.Goals as goal

pub returns : goal.returns
returns c =
    let a = c.self.inside.text in
    let b = c.other.inside.text in
    c.eq.ensures
    ∙ same_tests (string_bytes a) (string_bytes b) (IsUtf8-string_bytes a) (IsUtf8-string_bytes b)
    ∙ ap (λ x. pointwise nat_eq x (chars (string_bytes b))) c.self.view_is
    ∙ ap (λ x. pointwise nat_eq c.args.self.now x) c.other.view_is
