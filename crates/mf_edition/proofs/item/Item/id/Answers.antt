-- What was cut out is UTF-8, so its bytes are those of its characters.
use Rattle.std.proofs.Common.{chars, encode_utf8_all, ap, sym, ◌∙◌}
use Rattle.std.proofs.lemmas.Str.{encodes-chars}
use Rattle.std.specs.List.{slice_range}
use Rattle.mf_edition.proofs.item.Item.id.Goals as goal

pub returns-clause-bytes : goal.returns-clause-bytes
returns-clause-bytes c =
    sym (encodes-chars c.range.result.now c.range.utf8)
    ∙ ap (λ bytes. encode_utf8_all (chars bytes)) (c.range.ensures.value ∙ ap (λ bytes. slice_range bytes c.self.inside.tag_end c.self.inside.id_end) c.deref.ensures)
    ∙ ap (λ item. encode_utf8_all item.id) c.self.view_is
