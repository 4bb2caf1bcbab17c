use Rattle.std.proofs.Common.{◌∙◌, ◌++◌, encode_utf8_all, string_bytes, ap, sym}
use Rattle.std.proofs.lemmas.List.{take_all}
use Rattle.std.proofs.lemmas.Str.{encodes-chars, encodes_same, IsUtf8-string_bytes}
use Rattle.mf_parts.proofs.Joining.{bytes_more}
use Rattle.mf_parts.specs.Joined.{part_text, text_of}
use Rattle.mf_parts.proofs.text.joined.Goals as goal

pub loop-part-preserved : goal.loop-part-preserved
loop-part-preserved c =
    let parts = c.as_slice-part-items.result.now in
    c.in_ok-push_part.ensures
    ∙ ap (λ bytes. bytes ++ encode_utf8_all (part_text c.part-item.result)) c.loop-part.invariant
    ∙ sym (bytes_more parts c.loop-part.part-index c.part-item.result c.loop-part-test.true c.part-item.is)

pub returns : goal.returns
returns c =
    let parts = c.as_slice-part-items.result.now in
    let text = c.loop-part.text in
    c.from.ensures
    ∙ encodes_same _ _ (encodes-chars (string_bytes text) (IsUtf8-string_bytes text) ∙ c.loop-part.invariant)
    ∙ ap text_of (take_all c.loop-part.part-index parts c.loop-part-test.false ∙ c.as_slice-part-items.ensures)
