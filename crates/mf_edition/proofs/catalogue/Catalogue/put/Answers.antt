use Rattle.std.proofs.Common.{chars, map, ap, ◌∙◌}
use Rattle.std.specs.Arc.{arc_value}
use Rattle.mf_text.specs.declared.pair.Pair.{Pair}
use Rattle.mf_edition.specs.Catalogues.{Catalogue}
use Rattle.mf_edition.specs.Items.{item_values, message_of}
use Rattle.mf_text.specs.Pairs.{insert_pair}
use Rattle.mf_edition.proofs.ItemSearch.{messages_inserted}
use Rattle.mf_edition.proofs.catalogue.Catalogue.put.Goals as goal

pub returns-clause-ok : goal.returns-clause-ok
returns-clause-ok c =
    let items = item_values c.self.inside.items.items in
    let message : Pair = record { name = chars c.args.id.now; value = chars c.args.source.now } in
    ap (λ messages. record { tag = c.self.inside.tag; messages = messages })
    (ap (map message_of) c.in_ok-insert_item.ensures.ok
    ∙ messages_inserted (arc_value c.in_ok-item-2.item) items
    ∙ ap (λ item. insert_pair (message_of item) (map message_of items)) (c.in_ok-item-2.ensures.ok ∙ c.in_ok-item.ensures))
    ∙ ap (λ (catalogue : Catalogue). record { tag = catalogue.tag; messages = insert_pair message catalogue.messages }) c.self.view_is
