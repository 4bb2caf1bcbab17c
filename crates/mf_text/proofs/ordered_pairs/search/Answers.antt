use Rattle.std.proofs.Common.{rules}
use Rattle.std.proofs.lemmas.Fn.{always_returns_same}
use Rattle.mf_text.specs.Order.{byte_cmp}
use Rattle.mf_text.specs.declared.pair.Pair.{Pair}
use Rattle.mf_text.proofs.Pairs.{search_result}
use Rattle.mf_text.proofs.ordered_pairs.search.Goals as goal

pub returns : goal.returns
returns c =
    search_result c.args.pairs.now c.args.name.now c.requires c.binary_search_by.result c.binary_search_by.ensures.bound
    (c.binary_search_by.ensures.position (λ (pair : Pair). byte_cmp pair.name c.args.name.now) (always_returns_same _ _ _ (λ a r f' called. search rules)))
