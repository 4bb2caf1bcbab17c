use Rattle.std.proofs.Common.{chars, rules}
use Rattle.std.proofs.lemmas.Fn.{always_returns_same}
use Rattle.mf_edition.specs.Items.{item_values}
use Rattle.mf_edition.specs.Order.{names_of, index_cmp}
use Rattle.mf_edition.proofs.Searched.{search_result}
use Rattle.mf_edition.proofs.order.search.Goals as goal

pub returns : goal.returns
returns c =
    search_result (names_of (item_values c.args.items.now)) c.args.order.now (chars c.args.tag.now, chars c.args.id.now) c.requires c.binary_search_by.result
    c.binary_search_by.ensures.bound
    (c.binary_search_by.ensures.position (index_cmp (names_of (item_values c.args.items.now)) (chars c.args.tag.now, chars c.args.id.now))
    (always_returns_same _ _ _ (λ a r f' called. search rules)))
