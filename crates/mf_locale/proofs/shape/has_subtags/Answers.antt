-- The text is cut at its first hyphen.
use Rattle.std.proofs.Common.{arith, ◌≡◌, ◌&&◌, None, Some, ap, sym, ◌∙◌, lit<}
use Rattle.std.proofs.lemmas.Str.Pattern.{split_parts}
use Rattle.std.specs.List.{list_all}
use Rattle.mf_locale.specs.Tag.{are_subtags, is_first_subtag, is_further_subtag, subtags}
use Rattle.mf_locale.proofs.Parts.{are_subtags_one, are_subtags_first}
use Rattle.mf_locale.proofs.shape.has_subtags.Goals as goal
use Rattle.mf_locale.proofs.shape.has_subtags.Goals.{In-Some}

pub returns-in-None : goal.returns-in-None
returns-in-None c = c.is_first.ensures ∙ sym (are_subtags_one c.args.text.now (split_parts 45 c.args.text.now None c.in-None.ensures.cases (lit< tt)))

cut : (c : In-Some) → are_subtags (subtags c.args.text.now) ≡ (is_first_subtag c.in-Some.first.now && list_all is_further_subtag (subtags c.in-Some.further.now))
cut c =
    let parts = split_parts 45 c.args.text.now (Some (c.in-Some.first, c.in-Some.further)) c.in-Some.ensures.cases (lit< tt) in
    ap (λ t. are_subtags (subtags t)) parts.0 ∙ are_subtags_first c.in-Some.first.now c.in-Some.further.now parts.1

pub returns-then-is_first : goal.returns-then-is_first
returns-then-is_first c =
    let parts = cut (goal.at.returns-then-is_first c).In-Some in
    grind (arith, parts)

pub returns-else-is_first : goal.returns-else-is_first
returns-else-is_first c =
    let parts = cut (goal.at.returns-else-is_first c).In-Some in
    grind (arith, parts)
