use Rattle.std.proofs.Common.{◌∙◌, sym}
use Rattle.mf_hub.proofs.Growing.{grows_through, keeps_through}
use Rattle.mf_rehearse.proofs.leaving.closed_log.Goals as goal

pub loop-preserved : goal.loop-preserved
loop-preserved g c =
    let p = c.args.home.view in
    let q = c.loop.home.view in
    let again = c.in-Err.ensures in (
      again.own.1 ∙ sym again.own.0,
      grows_through p q c.in-Err.pass.view c.loop.invariant.1 again.grows,
      keeps_through p q c.in-Err.pass.view c.loop.invariant.2 again.keeps,
    )
