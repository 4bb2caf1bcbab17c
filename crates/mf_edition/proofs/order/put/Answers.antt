use Rattle.std.proofs.Common.{chars, ◌++◌, ◌∷◌, [], set, ap, sym, ◌∙◌, subst}
use Rattle.std.proofs.lemmas.List.{get_or_default}
use Rattle.std.specs.Arc.{arc_value}
use Rattle.std.specs.List.{insert}
use Rattle.mf_edition.specs.Items.{item_values}
use Rattle.mf_edition.specs.Order.{name_of, names_of, IsFound, IsGap, IsOrder, Name}
use Rattle.mf_edition.proofs.InPlace.{order_new, order_there, put_new, put_there}
use Rattle.mf_edition.proofs.order.put.Goals as goal
use Rattle.mf_edition.proofs.order.put.Goals.{In-Ok, In-Err}

-- what the search, which is for the characters of the tag and the id, says of the lists that were handed in
found : (c : In-Ok) → IsFound (names_of (item_values c.args.items.now.items)) c.args.order.now.items (name_of (arc_value c.args.item)) c.in-Ok.at
found c =
    subst (λ (name : Name). IsFound (names_of (item_values c.args.items.now.items)) c.args.order.now.items name c.in-Ok.at) (λ i. ((c.tag.ensures.characters ∙ ap (λ item. item.tag) c.deref-3.ensures) i, (c.id.ensures.characters ∙ ap (λ item. item.id) c.deref-4.ensures) i))
    (subst (λ order. IsFound (names_of (item_values c.args.items.now.items)) order (chars c.tag.result.now, chars c.id.result.now) c.in-Ok.at) c.deref-2.ensures.value
    (subst (λ items. IsFound (names_of (item_values items)) c.deref-2.result.now (chars c.tag.result.now, chars c.id.result.now) c.in-Ok.at) c.deref.ensures.value c.in-Ok.ensures))

gap : (c : In-Err) → IsGap (names_of (item_values c.args.items.now.items)) c.args.order.now.items (name_of (arc_value c.args.item)) c.in-Err.at
gap c =
    subst (λ (name : Name). IsGap (names_of (item_values c.args.items.now.items)) c.args.order.now.items name c.in-Err.at) (λ i. ((c.tag.ensures.characters ∙ ap (λ item. item.tag) c.deref-3.ensures) i, (c.id.ensures.characters ∙ ap (λ item. item.id) c.deref-4.ensures) i))
    (subst (λ order. IsGap (names_of (item_values c.args.items.now.items)) order (chars c.tag.result.now, chars c.id.result.now) c.in-Err.at) c.deref-2.ensures.value
    (subst (λ items. IsGap (names_of (item_values items)) c.deref-2.result.now (chars c.tag.result.now, chars c.id.result.now) c.in-Err.at) c.deref.ensures.value c.in-Err.ensures))

pub returns-in-Ok-clause-items : goal.returns-in-Ok-clause-items
returns-in-Ok-clause-items c =
    let there = found (goal.at.returns-in-Ok-clause-items c).In-Ok in
    let index = c.index.ensures ∙ get_or_default c.args.order.now.items c.in-Ok.at c.index.result.now 0 there.inside in
    ap (λ index. item_values (set c.args.items.now.items index c.args.item)) index
    ∙ put_there c.args.items.now.items c.args.order.now.items c.args.item c.in-Ok.at c.requires.order there

pub returns-in-Ok-clause-order : goal.returns-in-Ok-clause-order
returns-in-Ok-clause-order c =
    let there = found (goal.at.returns-in-Ok-clause-order c).In-Ok in
    let index = c.index.ensures ∙ get_or_default c.args.order.now.items c.in-Ok.at c.index.result.now 0 there.inside in
    subst (λ index. IsOrder (names_of (item_values (set c.args.items.now.items index c.args.item))) c.args.order.now.items) (sym index)
    (order_there c.args.items.now.items c.args.order.now.items c.args.item c.in-Ok.at c.requires.order there)

pub returns-in-Err-clause-items : goal.returns-in-Err-clause-items
returns-in-Err-clause-items c =
    ap item_values c.push_reserved.ensures.items
    ∙ put_new c.args.items.now.items c.args.order.now.items c.args.item c.in-Err.at c.requires.order (gap (goal.at.returns-in-Err-clause-items c).In-Err)

pub returns-in-Err-clause-order : goal.returns-in-Err-clause-order
returns-in-Err-clause-order c =
    let count = c.len.ensures ∙ c.args.items.now.ok.0 in
    let order = c.insert_reserved.ensures.items ∙ ap (insert c.args.order.now.items c.in-Err.at) count in
    subst (λ items. IsOrder (names_of (item_values items)) c.insert_reserved.new.order.items) (sym c.push_reserved.ensures.items)
    (subst (λ o. IsOrder (names_of (item_values (c.args.items.now.items ++ c.args.item ∷ []))) o) (sym order)
    (order_new c.args.items.now.items c.args.order.now.items c.args.item c.in-Err.at c.requires.order (gap (goal.at.returns-in-Err-clause-order c).In-Err)))
