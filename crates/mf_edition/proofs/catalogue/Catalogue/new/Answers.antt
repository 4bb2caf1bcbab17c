use Rattle.std.proofs.Common.{sym, subst}
use Rattle.mf_edition.specs.Catalogues.{IsCatalogue}
use Rattle.mf_edition.specs.Items.{item_values}
use Rattle.mf_edition.proofs.ItemSearch.{catalogue_none}
use Rattle.mf_edition.proofs.catalogue.Catalogue.new.Goals as goal

pub invariant_of-result : goal.invariant_of-result
invariant_of-result c = subst (λ items. IsCatalogue c.args.tag (item_values items)) (sym c.in_ok-items.ensures.items) (catalogue_none c.args.tag)
