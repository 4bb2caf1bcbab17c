use Rattle.std.proofs.Common.{◌≡◌, ◌+◌, ◌++◌, [], ◌∷◌, take, sym, ap, subst, ◌∙◌}
use Rattle.std.proofs.lemmas.List.{take_more}
use Rattle.mf_select.specs.Stepping.{ResolvesSelectors}
use Rattle.mf_select.proofs.Advancing.{selector_more}
use Rattle.mf_select.proofs.selectors.resolve_selectors.Goals as goal

pub loop-name-preserved : goal.loop-name-preserved
loop-name-preserved g c =
    let meaning = g.F.Functions.meaning c.args.functions.now in
    let old = c.args.scope.now in
    let mid = c.loop-name.scope in
    let new = c.resolve_selector.new.scope in
    let selectors = c.args.selectors.now in
    let i = c.loop-name.name-index in
    let before = take i selectors in
    let last = c.name-item.result in
    let value = c.in_ok-value.value in
    let more : take (i + 1) selectors ≡ before ++ last ∷ [] = take_more selectors i last c.loop-name-test.true ∙ ap (λ n. before ++ n ∷ []) (sym c.name-item.is) in
    subst (λ front. ResolvesSelectors meaning old new front c.push.new.self) (sym more)
    (subst (ResolvesSelectors meaning old new (before ++ last ∷ [])) (sym c.in_ok-push.ensures.ok)
    (selector_more meaning old mid new before last c.loop-name.values value c.loop-name.invariant c.in_ok-value.ensures))
