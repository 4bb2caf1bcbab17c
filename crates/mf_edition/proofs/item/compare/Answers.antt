-- The texts are UTF-8, so their bytes are those of their characters.
use Rattle.std.proofs.Common.{chars, encode_utf8_all, ap, sym, ◌∙◌}
use Rattle.std.proofs.lemmas.Str.{encodes-chars}
use Rattle.std.specs.Cmp.Lexicographic.{slice_cmp}
use Rattle.std.specs.Ordering.{nat_cmp}
use Rattle.mf_edition.proofs.item.compare.Goals as goal

pub returns : goal.returns
returns c =
    c.cmp.ensures
    ∙ ap (λ bytes. slice_cmp nat_cmp bytes c.args.other.now) (sym (encodes-chars c.args.text.now c.utf8.text))
    ∙ ap (slice_cmp nat_cmp (encode_utf8_all (chars c.args.text.now))) (sym (encodes-chars c.args.other.now c.utf8.other))
