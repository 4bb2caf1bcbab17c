use Rattle.std.proofs.Common.{arith, ◌+◌}
use Rattle.mf_history.proofs.Editions.{front_is}
use Rattle.mf_history.proofs.front.advance_to.Goals as goal

pub loop-front-smaller : goal.loop-front-smaller
loop-front-smaller c =
    let next = front_is c.args.log.now (c.loop-front.front.edition.number + 1) c.advance.new.front
    (omega (arith, c.loop-front-test.true, c.requires.within, c.number.ensures)) c.in_ok-advance.ensures.is in
    omega (arith, next.0, c.loop-front-test.true, c.number.ensures)

pub loop-front-preserved : goal.loop-front-preserved
loop-front-preserved c =
    let next = front_is c.args.log.now (c.loop-front.front.edition.number + 1) c.advance.new.front
    (omega (arith, c.loop-front-test.true, c.requires.within, c.number.ensures)) c.in_ok-advance.ensures.is in
    (next.1, omega (arith, next.0, c.loop-front-test.true, c.number.ensures))
