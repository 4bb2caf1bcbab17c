use Rattle.std.proofs.Common.{◌≡◌, chars, ap, sym, ◌∙◌, subst}
use Rattle.std.specs.Arc.{arc_value}
use Rattle.mf_edition.specs.Catalogues.{IsCatalogue, IsItemAt, IsItemGap}
use Rattle.mf_edition.specs.Items.{item_values}
use Rattle.mf_edition.proofs.ItemSearch.{catalogue_inserted, put_between, put_there}
use Rattle.mf_edition.proofs.catalogue.insert_item.Goals as goal
use Rattle.mf_edition.proofs.catalogue.insert_item.Goals.{After-search}

-- the search is for the id of the item
id_is : (c : After-search) → chars c.id.result.now ≡ (arc_value c.args.item).id
id_is c = c.id.ensures.characters ∙ ap (λ item. item.id) c.deref-2.ensures

pub returns-in-Ok-clause-ok : goal.returns-in-Ok-clause-ok
returns-in-Ok-clause-ok c =
    let found = subst (λ id. IsItemAt c.deref.result.now id c.in-Ok.index) (id_is (goal.at.returns-in-Ok-clause-ok c).After-search) c.in-Ok.ensures in
    put_there c.args.items.now.items c.args.item c.in-Ok.index (subst (λ items. IsItemAt items (arc_value c.args.item).id c.in-Ok.index) c.deref.ensures.value found)

pub returns-in-Ok-clause-catalogue : goal.returns-in-Ok-clause-catalogue
returns-in-Ok-clause-catalogue c =
    subst (IsCatalogue (arc_value c.args.item).tag) (sym (returns-in-Ok-clause-ok c)) (catalogue_inserted (arc_value c.args.item) (item_values c.args.items.now.items) c.requires)

pub returns-in_ok-insert-in-Err-clause-ok : goal.returns-in_ok-insert-in-Err-clause-ok
returns-in_ok-insert-in-Err-clause-ok c =
    let gap = subst (λ id. IsItemGap c.deref.result.now id c.in-Err.index) (id_is (goal.at.returns-in_ok-insert-in-Err-clause-ok c).After-search) c.in-Err.ensures in
    ap item_values c.in_ok-insert-in-Err.ensures.items
    ∙ put_between c.args.items.now.items c.args.item c.in-Err.index (subst (λ items. IsItemGap items (arc_value c.args.item).id c.in-Err.index) c.deref.ensures.value gap)

pub returns-in_ok-insert-in-Err-clause-catalogue : goal.returns-in_ok-insert-in-Err-clause-catalogue
returns-in_ok-insert-in-Err-clause-catalogue c =
    subst (IsCatalogue (arc_value c.args.item).tag) (sym (returns-in_ok-insert-in-Err-clause-ok c)) (catalogue_inserted (arc_value c.args.item) (item_values c.args.items.now.items) c.requires)
