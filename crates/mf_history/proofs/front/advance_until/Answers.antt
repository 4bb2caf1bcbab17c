use Rattle.std.proofs.Common.{◌+◌, arith}
use Rattle.mf_history.proofs.Editions.{front_is, not_before, not_passed}
use Rattle.mf_history.proofs.front.advance_until.Goals as goal

pub loop-front-smaller : goal.loop-front-smaller
loop-front-smaller c =
    let next = front_is c.args.log.now (c.loop-front.front.edition.number + 1) c.advance.new.front
    (omega (arith, c.if-number-len.true, c.number.ensures, c.len.ensures.len)) c.in_ok-advance.ensures.is in
    omega (arith, next.0, c.if-number-len.true, c.number.ensures, c.len.ensures.len)

pub loop-front-preserved : goal.loop-front-preserved
loop-front-preserved c =
    let next = front_is c.args.log.now (c.loop-front.front.edition.number + 1) c.advance.new.front
    (omega (arith, c.if-number-len.true, c.number.ensures, c.len.ensures.len)) c.in_ok-advance.ensures.is in (
      record { front = next.1; from = omega (arith, next.0, c.loop-front.invariant.0.from) },
      λ k from within same. omega (
        arith,
        next.0,
        not_passed c.args.log.now c.loop-front.front c.args.used k c.loop-front.invariant.0.front c.loop-front-test.true (c.loop-front.invariant.1 k from within same) same,
      ),
    )

pub returns-after-loop-front-clause-there : goal.returns-after-loop-front-clause-there
returns-after-loop-front-clause-there c =
    λ k from within same.
    not_before c.args.log.now c.loop-front.front c.args.used k c.loop-front.invariant.0.front (c.loop-front.invariant.1 k from within same) within same
    (λ less inside. omega (arith, less, c.loop-front-test.false))
