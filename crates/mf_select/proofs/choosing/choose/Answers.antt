use Rattle.std.proofs.Common.{subst}
use Rattle.mf_select.specs.Stepping.{RanksKeys, ResolvesSelectors}
use Rattle.mf_select.proofs.Together.{chooses}
use Rattle.mf_select.proofs.choosing.choose.Goals as goal

pub returns : goal.returns
returns g c =
    let meaning = g.F.Functions.meaning c.args.functions.now in
    let old = c.args.scope.now in
    let mid = c.resolve_selectors.new.scope in
    let new = c.rank_keys.new.scope in
    let selectors = c.args.selectors.now in
    let variants = c.args.variants.now in
    let values = c.in_ok-values.values in
    let ranks = c.in_ok-ranks.ranks in
    let resolves = subst (λ names. ResolvesSelectors meaning old mid names values) c.as_slice.ensures c.in_ok-values.ensures in
    let ranked =
    subst (λ vs. RanksKeys meaning mid new values vs ranks) c.as_slice-3.ensures
    (subst (λ vs. RanksKeys meaning mid new vs c.as_slice-3.result.now ranks) c.as_slice-2.ensures c.in_ok-ranks.ensures) in
    chooses meaning old mid new selectors variants c.requires.fit values ranks resolves ranked c.least.result c.unwrap_or.result c.least.ensures c.unwrap_or.ensures
