use Rattle.std.proofs.Common.{chars, ap, sym, ◌∙◌}
use Rattle.mf_edition.specs.Order.{name_cmp, name_of}
use Rattle.mf_edition.proofs.Searched.{compared_item, compared_past}
use Rattle.mf_edition.proofs.order.compare_at.Goals as goal

pub returns-in-Some : goal.returns-in-Some
returns-in-Some c =
    let read = c.in-Some.ensures.lookup.3 in
    c.compare_names.ensures
    ∙ ap (λ item. name_cmp (name_of item) (chars c.args.tag.now, chars c.args.id.now)) c.deref.ensures
    ∙ sym (compared_item c.args.items.now c.args.index c.in-Some.item.now (chars c.args.tag.now, chars c.args.id.now) read.0 (read.1 c.in-Some.item.now))

pub returns-in-None : goal.returns-in-None
returns-in-None c = sym (compared_past c.args.items.now c.args.index (chars c.args.tag.now, chars c.args.id.now) c.in-None.ensures.lookup.3)
