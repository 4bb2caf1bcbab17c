use Rattle.std.proofs.Common.{arith}
use Rattle.std.proofs.lemmas.Str.Parse.{digits_value-take-le}
use Rattle.std.proofs.lemmas.Int.Digits.{digits_value_more}
use Rattle.mf_decimal.proofs.DigitSteps.{digit_byte}
use Rattle.mf_decimal.proofs.reading.exponent_value.Goals as goal

pub returns-then-value-ge-FAR-clause-far : goal.returns-then-value-ge-FAR-clause-far
returns-then-value-ge-FAR-clause-far c =
    let front = digits_value-take-le 10 c.args.digits.now c.loop-digit.digit-index (omega arith) in
    omega (arith, front, c.loop-digit.invariant.value)

pub overflow_sub-digit : goal.overflow_sub-digit
overflow_sub-digit c = (digit_byte c.args.digits.now c.loop-digit.digit-index c.requires c.loop-digit-test.true).0

pub loop-digit-preserved : goal.loop-digit-preserved
loop-digit-preserved c =
    let byte = digit_byte c.args.digits.now c.loop-digit.digit-index c.requires c.loop-digit-test.true in
    let more = digits_value_more 10 c.args.digits.now c.loop-digit.digit-index c.loop-digit-test.true in
    record { value = omega (arith, more, byte.2, c.loop-digit.invariant.value); near = omega (arith, byte.1) }
