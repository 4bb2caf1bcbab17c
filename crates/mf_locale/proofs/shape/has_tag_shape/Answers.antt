use Rattle.std.proofs.Common.{sym, ◌∙◌, arith}
use Rattle.mf_locale.proofs.Parts.{is_tag-chars, is_tag-long, is_tag-short}
use Rattle.mf_locale.proofs.shape.has_tag_shape.Goals as goal

pub returns-then-text-le-LONGEST_TAG : goal.returns-then-text-le-LONGEST_TAG
returns-then-text-le-LONGEST_TAG c =
    c.has_subtags.ensures ∙ sym (is_tag-short c.args.text.now (omega arith)) ∙ is_tag-chars c.args.text.now c.utf8.text

pub returns-else-text-le-LONGEST_TAG : goal.returns-else-text-le-LONGEST_TAG
returns-else-text-le-LONGEST_TAG c =
    let long = is_tag-long c.args.text.now (omega arith) in
    let same = is_tag-chars c.args.text.now c.utf8.text in
    grind (arith, long, same)
