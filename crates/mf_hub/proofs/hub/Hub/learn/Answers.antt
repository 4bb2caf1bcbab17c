use Rattle.std.proofs.Common.{subst}
use Rattle.mf_turn.specs.Taught.{Counted}
use Rattle.mf_hub.specs.Passes.{Grows, Known, PassState}
use Rattle.mf_hub.specs.Stores.{caller_of}
use Rattle.mf_hub.proofs.Growing.{grows_joined}
use Rattle.mf_hub.proofs.hub.Hub.learn.Goals as goal

pub returns-clause-grows : goal.returns-clause-grows
returns-clause-grows c = let v : Known = c.pass.inside.seat.view in let left : Known = c.note.inside.seat.view in let u : Known = c.count-seen.new.seat.view in
    let counted = subst (λ (z : Known). Counted caller_of c.count-seen.result z u) c.join.ensures.view c.count-seen.ensures.counted in
    subst (λ (p : PassState). Grows p.view u) c.pass.view_is (grows_joined v left c.count-seen.result u counted)
