use Rattle.std.proofs.Common.{◌≡◌, ◌+◌, ◌∙◌, ◌∷◌, ◌++◌, [], ap, sym, subst, take}
use Rattle.std.proofs.lemmas.List.{take_more}
use Rattle.mf_render.specs.Showing.{GivesParts}
use Rattle.mf_render.proofs.Pieces.{one_more}
use Rattle.mf_render.proofs.pattern.pattern_parts.Goals as goal

pub loop-piece-preserved : goal.loop-piece-preserved
loop-piece-preserved g c =
    let locale = c.args.«record».now in
    let meaning = g.F.Functions.meaning c.args.functions.now in
    let old = c.args.scope.now in
    let mid = c.loop-piece.scope in
    let new = c.piece_part.new.scope in
    let pieces = c.as_slice-piece-items.result.now in
    let i = c.loop-piece.piece-index in
    let before = take i pieces in
    let last = c.piece-item.result in
    let more : take (i + 1) pieces ≡ before ++ last ∷ [] = take_more pieces i last c.loop-piece-test.true ∙ ap (λ p. before ++ p ∷ []) (sym c.piece-item.is) in
    subst (λ front. GivesParts locale meaning old new front c.in_ok-parts-2.parts) (sym more)
    (subst (GivesParts locale meaning old new (before ++ last ∷ [])) (sym c.in_ok-parts-2.ensures)
    (one_more locale meaning old mid new before last c.loop-piece.parts c.in_ok-part.part c.loop-piece.invariant c.in_ok-part.ensures))
