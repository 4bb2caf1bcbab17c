use Rattle.std.proofs.Common.{◌∙◌, ◌+◌, ap, sym, length, encode_utf8_all}
use Rattle.mf_parts.specs.Joined.{part_text}
use Rattle.mf_parts.proofs.Joining.{braced_len}
use Rattle.mf_parts.proofs.text.part_len.Goals as goal

pub returns-in-Fallback : goal.returns-in-Fallback
returns-in-Fallback c =
    ap (λ bytes. length bytes + 2) c.as_str-in-Fallback.ensures.bytes
    ∙ sym (braced_len c.in-Fallback.source)
    ∙ ap (λ part. length (encode_utf8_all (part_text part))) (sym c.in-Fallback.is)
