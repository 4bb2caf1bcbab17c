use Rattle.std.proofs.Common.{subst}
use Rattle.mf_hub.specs.Passes.{Grows, PassState}
use Rattle.mf_hub.proofs.Growing.{grows_counted}
use Rattle.mf_hub.proofs.hub.Hub.newest.Goals as goal

pub returns-clause-grows : goal.returns-clause-grows
returns-clause-grows c = subst (λ (p : PassState). Grows p.view c.count-pass-inside.new.seat.view) c.pass.view_is
    (grows_counted c.pass.inside.seat.view c.count-pass-inside.new.seat.view c.count-pass-inside.result c.count-pass-inside.ensures.counted)
