use Rattle.std.proofs.Common.{arith}
use Rattle.std.proofs.lemmas.List.{take_rest}
use Rattle.mf_io.proofs.Sending.{step}
use Rattle.mf_io.proofs.whole.send.Goals as goal

pub loop-rest-preserved : goal.loop-rest-preserved
loop-rest-preserved g c =
    let so = c.loop-rest.invariant in
    (step _ _ _ _ _ _ _ so.0 c.in_ok-count.ensures.bytes (take_rest c.loop-rest.rest.now c.in_ok-count.count), omega (arith, so.1, c.in_ok-count.ensures.cause.later))
