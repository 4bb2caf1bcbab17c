use Rattle.std.proofs.Common.{◌≡◌, ◌+◌, ◌++◌, [], ◌∷◌, take, sym, ap, subst, ◌∙◌}
use Rattle.std.proofs.lemmas.List.{take_more}
use Rattle.mf_select.specs.Stepping.{RanksColumn, RanksKey}
use Rattle.mf_select.proofs.Advancing.{key_more}
use Rattle.mf_select.proofs.keys.rank_column.Goals as goal

pub loop-variant-preserved : goal.loop-variant-preserved
loop-variant-preserved g c =
    let meaning = g.F.Functions.meaning c.args.functions.now in
    let old = c.args.scope.now in
    let mid = c.loop-variant.scope in
    let new = c.rank_key.new.scope in
    let column = c.args.column in
    let value = c.args.value.now in
    let variants = c.args.variants.now in
    let i = c.loop-variant.variant-index in
    let before = take i variants in
    let last = c.variant-item.result in
    let rank = c.in_ok-rank.rank in
    let more : take (i + 1) variants ≡ before ++ last ∷ [] = take_more variants i last c.loop-variant-test.true ∙ ap (λ v. before ++ v ∷ []) (sym c.variant-item.is) in
    let ranked = subst (λ key. RanksKey meaning mid new value key rank) c.get.ensures c.in_ok-rank.ensures in
    subst (λ front. RanksColumn meaning old new column value front c.args.ranks.now c.push.new.self) (sym more)
    (subst (RanksColumn meaning old new column value (before ++ last ∷ []) c.args.ranks.now) (sym c.in_ok-push.ensures.ok)
    (key_more meaning old mid new column value before last c.args.ranks.now c.loop-variant.ranks rank c.loop-variant.invariant ranked))
