-- The bytes of a tag are its characters, so its letters may be changed byte by byte.
use Rattle.std.proofs.Common.{◌≡◌, true, ap, sym, ◌∙◌, subst, chars, rules}
use Rattle.mf_locale.specs.Tag.{is_tag, lower_case, IsLowerTag}
use Rattle.mf_locale.proofs.Parts.{chars-lower_case, IsLowerTag-lower_case}
use Rattle.mf_locale.proofs.tag.read_tag.Goals as goal
use Rattle.mf_locale.proofs.tag.read_tag.Goals.{In_ok-lower}

pub returns-clause-ok : goal.returns-clause-ok
returns-clause-ok c =
    let passes : is_tag (chars c.args.text.now) ≡ true = search rules in
    c.from.ensures ∙ ap chars (c.make_ascii_lowercase.ensures.bytes ∙ ap lower_case c.in_ok-lower.ensures.ok)
    ∙ chars-lower_case c.args.text.now c.utf8.text passes

pub invariant_of-result : goal.invariant_of-result
invariant_of-result c =
    let passes : is_tag (chars c.args.text.now) ≡ true = search rules in
    subst IsLowerTag
    (sym (c.from.ensures ∙ ap chars (c.make_ascii_lowercase.ensures.bytes ∙ ap lower_case c.in_ok-lower.ensures.ok) ∙ chars-lower_case c.args.text.now c.utf8.text passes))
    (IsLowerTag-lower_case (chars c.args.text.now) passes)
