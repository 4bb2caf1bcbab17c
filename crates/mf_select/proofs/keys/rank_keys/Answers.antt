use Rattle.std.proofs.Common.{◌≡◌, ◌+◌, ◌++◌, [], ◌∷◌, take, sym, ap, subst, ◌∙◌}
use Rattle.std.proofs.lemmas.List.{take_more}
use Rattle.mf_select.specs.Stepping.{RanksFront}
use Rattle.mf_select.proofs.Advancing.{front_length, front_more}
use Rattle.mf_select.proofs.keys.rank_keys.Goals as goal

pub loop-column-preserved : goal.loop-column-preserved
loop-column-preserved g c =
    let meaning = g.F.Functions.meaning c.args.functions.now in
    let old = c.args.scope.now in
    let mid = c.loop-column.scope in
    let new = c.rank_column.new.scope in
    let values = c.args.values.now in
    let variants = c.args.variants.now in
    let i = c.loop-column.column in
    let before = take i values in
    let last = c.index-values-column.result in
    let more : take (i + 1) values ≡ before ++ last ∷ [] = take_more values i last c.loop-column-test.true ∙ ap (λ v. before ++ v ∷ []) (sym c.index-values-column.is) in
    subst (λ front. RanksFront meaning old new front variants c.rank_column.new.ranks) (sym more)
    (front_more meaning old mid new before last variants i c.loop-column.ranks c.rank_column.new.ranks
    (front_length values i c.loop-column-test.true) c.loop-column.invariant c.in_ok-rank_column.ensures)
