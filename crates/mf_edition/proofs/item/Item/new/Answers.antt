-- The text is the tag, the id and the source, and ends of them are noted where they stand.
use Rattle.std.proofs.Common.{◌≡◌, ℕ, List, ◌++◌, length, chars, ap, sym, ◌∙◌, subst}
use Rattle.std.specs.Prelude.{string_bytes}
use Rattle.mf_edition.specs.Items.{item_in, AreEnds}
use Rattle.mf_edition.proofs.Cut.{joined_ends, joined_item}
use Rattle.mf_edition.proofs.item.Item.new.Goals as goal
use Rattle.mf_edition.proofs.item.Item.new.Goals.{In_ok-push_str-3}

tag_is : (c : In_ok-push_str-3) → string_bytes c.push_str.new.self ≡ c.as_str-tag.result.now
tag_is c = c.in_ok-push_str.ensures.bytes ∙ ap (λ bytes. bytes ++ c.as_str-tag.result.now) c.in_ok-text.ensures.bytes

front_is : (c : In_ok-push_str-3) → string_bytes c.push_str-2.new.self ≡ c.as_str-tag.result.now ++ c.args.id.now
front_is c = c.in_ok-push_str-2.ensures.bytes ∙ ap (λ bytes. bytes ++ c.args.id.now) (tag_is c)

abbrev whole : In_ok-push_str-3 → List ℕ
whole c = (c.as_str-tag.result.now ++ c.args.id.now) ++ c.args.source.now

text_is : (c : In_ok-push_str-3) → string_bytes c.push_str-3.new.self ≡ whole c
text_is c = c.in_ok-push_str-3.ensures.bytes ∙ ap (λ bytes. bytes ++ c.args.source.now) (front_is c)

tag_ends : (c : In_ok-push_str-3) → c.in_ok-tag_end.tag_end ≡ length c.as_str-tag.result.now
tag_ends c = c.in_ok-tag_end.ensures ∙ c.len.ensures ∙ c.push_str.new.self.bytes.ok.0 ∙ ap length (tag_is c)

id_ends : (c : In_ok-push_str-3) → c.in_ok-id_end.id_end ≡ length (c.as_str-tag.result.now ++ c.args.id.now)
id_ends c = c.in_ok-id_end.ensures ∙ c.len-2.ensures ∙ c.push_str-2.new.self.bytes.ok.0 ∙ ap length (front_is c)

pub invariant_of-result : goal.invariant_of-result
invariant_of-result c =
    subst (λ bytes. AreEnds bytes c.in_ok-tag_end.tag_end c.in_ok-id_end.id_end) (sym (text_is c))
    (subst (λ end. AreEnds (whole c) end c.in_ok-id_end.id_end) (sym (tag_ends c))
    (subst (AreEnds (whole c) (length c.as_str-tag.result.now)) (sym (id_ends c)) (joined_ends c.as_str-tag.result.now c.args.id.now c.args.source.now c.utf8.id c.utf8.source)))

pub returns : goal.returns
returns c =
    (λ i. item_in (text_is c i) (tag_ends c i) (id_ends c i))
    ∙ joined_item c.as_str-tag.result.now c.args.id.now c.args.source.now
    ∙ ap (λ tag. record { tag = tag; id = chars c.args.id.now; source = chars c.args.source.now }) (c.as_str-tag.ensures.characters ∙ c.as_text.ensures.text)
