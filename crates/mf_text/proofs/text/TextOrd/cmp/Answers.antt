-- A text is UTF-8, so its bytes are those of its characters.
use Rattle.std.proofs.Common.{ap, sym, ◌∙◌}
use Rattle.std.proofs.lemmas.Str.{encodes-chars, IsUtf8-string_bytes}
use Rattle.std.specs.Cmp.Lexicographic.{slice_cmp}
use Rattle.std.specs.Ordering.{nat_cmp}
use Rattle.std.specs.Prelude.{encode_utf8_all, string_bytes}
use Rattle.mf_text.proofs.text.TextOrd.cmp.Goals as goal

pub returns : goal.returns
returns c =
    let a = c.self.inside.text in
    let b = c.other.inside.text in
    c.cmp.ensures
    ∙ ap (λ bytes. slice_cmp nat_cmp bytes (string_bytes b))
    (sym (encodes-chars (string_bytes a) (IsUtf8-string_bytes a)) ∙ ap encode_utf8_all c.self.view_is)
    ∙ ap (λ bytes. slice_cmp nat_cmp (encode_utf8_all c.args.self.now) bytes)
    (sym (encodes-chars (string_bytes b) (IsUtf8-string_bytes b)) ∙ ap encode_utf8_all c.other.view_is)
