-- What was cut out is UTF-8, so its bytes are those of its characters.
use Rattle.std.proofs.Common.{chars, drop, encode_utf8_all, ap, sym, ◌∙◌}
use Rattle.std.proofs.lemmas.Str.{encodes-chars}
use Rattle.mf_edition.proofs.item.Item.source.Goals as goal

pub returns-clause-bytes : goal.returns-clause-bytes
returns-clause-bytes c =
    sym (encodes-chars c.range_from.result.now c.range_from.utf8)
    ∙ ap (λ bytes. encode_utf8_all (chars bytes)) (c.range_from.ensures.value ∙ ap (drop c.self.inside.id_end) c.deref.ensures)
    ∙ ap (λ item. encode_utf8_all item.source) c.self.view_is
