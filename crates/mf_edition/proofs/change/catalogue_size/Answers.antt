use Rattle.std.proofs.Common.{◌+◌, length, map, ap, ◌∙◌, arith, take_all}
use Rattle.std.proofs.lemmas.List.{length-map}
use Rattle.std.specs.Arc.{arc_value}
use Rattle.mf_edition.specs.Items.{item_values, message_of}
use Rattle.mf_edition.specs.Sizes.{byte_count, least_size, pairs_size, shown}
use Rattle.mf_edition.proofs.Sized.{counted_size, size_more}
use Rattle.mf_edition.proofs.change.catalogue_size.Goals as goal

pub returns-clause-counted : goal.returns-clause-counted
returns-clause-counted c =
    let items = c.as_slice-item-items.result.now in
    let whole = take_all c.loop-item.item-index items c.loop-item-test.false in
    counted_size c.args.catalogue.now.tag (item_values c.items.result.now.items) c.args.catalogue.now c.loop-item.size
    (c.loop-item.invariant ∙ ap (λ items. shown (least_size + byte_count c.args.catalogue.now.tag + pairs_size (map message_of (item_values items)))) (whole ∙ c.as_slice-item-items.ensures.value))
    c.items.ensures.catalogue c.items.ensures.items
    (let count = length-map c.items.result.now.items arc_value in let len = c.items.result.now.ok.0 in let small = c.items.result.now.small in omega arith)

pub loop-item-preserved : goal.loop-item-preserved
loop-item-preserved c =
    let item = arc_value c.item-item.result in
    let id = ap length c.id.ensures.bytes ∙ ap (λ item. byte_count item.id) c.deref.ensures in
    let source = ap length c.source.ensures.bytes ∙ ap (λ item. byte_count item.source) c.deref-in-loop-item.ensures in
    let named =
    c.saturating_add-size-in-loop-item.ensures
    ∙ ap (λ n. shown (c.loop-item.size + n)) id
    ∙ ap (λ n. shown (n + byte_count item.id)) c.loop-item.invariant
    in
    c.saturating_add-size-in-loop-item-2.ensures
    ∙ ap (λ n. shown (c.saturating_add-size-in-loop-item.result + n)) source
    ∙ ap (λ n. shown (n + byte_count item.source)) named
    ∙ size_more (64 + byte_count c.args.catalogue.now.tag) c.loop-item.item-index c.as_slice-item-items.result.now c.item-item.result c.loop-item-test.true c.item-item.is
