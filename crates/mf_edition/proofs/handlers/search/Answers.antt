use Rattle.std.proofs.Common.{rules}
use Rattle.std.proofs.lemmas.Fn.{always_returns_same}
use Rattle.mf_edition.specs.Handlers.{compared_name}
use Rattle.mf_edition.proofs.HandlerSearch.{search_result}
use Rattle.mf_edition.proofs.handlers.search.Goals as goal

pub returns : goal.returns
returns c =
    search_result c.args.handlers.now c.args.name.now c.requires c.binary_search_by.result c.binary_search_by.ensures.bound
    (c.binary_search_by.ensures.position (compared_name c.args.name.now) (always_returns_same _ _ _ (λ a r f' called. search rules)))
