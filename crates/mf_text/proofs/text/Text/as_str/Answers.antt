-- A text is UTF-8, so its bytes are those of its characters.
use Rattle.std.proofs.Common.{ap, sym, ◌∙◌}
use Rattle.std.proofs.lemmas.Str.{encodes-chars}
use Rattle.std.specs.Prelude.{chars, encode_utf8_all}
use Rattle.mf_text.proofs.text.Text.as_str.Goals as goal

pub returns-clause-bytes : goal.returns-clause-bytes
returns-clause-bytes c =
    sym (encodes-chars c.as_str.result.now c.as_str.utf8)
    ∙ ap (λ bytes. encode_utf8_all (chars bytes)) c.as_str.ensures.value
    ∙ ap encode_utf8_all c.self.view_is
