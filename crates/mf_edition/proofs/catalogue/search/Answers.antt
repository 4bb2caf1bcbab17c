use Rattle.std.proofs.Common.{chars, rules}
use Rattle.std.proofs.lemmas.Fn.{always_returns_same}
use Rattle.mf_edition.specs.Catalogues.{compared}
use Rattle.mf_edition.proofs.ItemSearch.{search_result}
use Rattle.mf_edition.proofs.catalogue.search.Goals as goal

pub returns : goal.returns
returns c =
    search_result c.args.items.now (chars c.args.id.now) c.requires c.binary_search_by.result c.binary_search_by.ensures.bound
    (c.binary_search_by.ensures.position (compared (chars c.args.id.now)) (always_returns_same _ _ _ (λ a r f' called. search rules)))
