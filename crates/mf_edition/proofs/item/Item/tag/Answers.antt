-- What was cut out is UTF-8, so its bytes are those of its characters.
use Rattle.std.proofs.Common.{chars, encode_utf8_all, ap, sym, ◌∙◌}
use Rattle.std.proofs.lemmas.Str.{encodes-chars}
use Rattle.std.specs.List.{slice_range}
use Rattle.mf_edition.proofs.Cut.{front_is}
use Rattle.mf_edition.proofs.item.Item.tag.Goals as goal

pub returns-clause-bytes : goal.returns-clause-bytes
returns-clause-bytes c =
    sym (encodes-chars c.range.result.now c.range.utf8)
    ∙ ap (λ bytes. encode_utf8_all (chars bytes)) (c.range.ensures.value ∙ ap (λ bytes. slice_range bytes 0 c.self.inside.tag_end) c.deref.ensures ∙ front_is _ c.self.inside.tag_end)
    ∙ ap (λ item. encode_utf8_all item.tag) c.self.view_is
