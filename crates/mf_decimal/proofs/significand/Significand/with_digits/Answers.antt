use Rattle.std.proofs.Common.{◌+◌, ◌*◌, ◌^◌, length, arith, rules}
use Rattle.std.specs.Str.Parse.{digits_value}
use Rattle.mf_decimal.specs.Significand.{worth, IsLong}
use Rattle.mf_decimal.proofs.DigitSteps.{digit_byte, more_read, long_here}
use Rattle.mf_decimal.proofs.significand.Significand.with_digits.Goals as goal

pub overflow_sub-byte : goal.overflow_sub-byte
overflow_sub-byte c = (digit_byte c.args.bytes.now c.loop-byte.byte-index c.requires.digits c.loop-byte-test.true).0

pub with_digit-requires-clause-digit : goal.with_digit-requires-clause-digit
with_digit-requires-clause-digit c = (digit_byte c.args.bytes.now c.loop-byte.byte-index c.requires.digits c.loop-byte-test.true).1

pub returns-in_err-number-clause-long : goal.returns-in_err-number-clause-long
returns-in_err-number-clause-long c =
    let byte = digit_byte c.args.bytes.now c.loop-byte.byte-index c.requires.digits c.loop-byte-test.true in
    let long : IsLong (worth c.args.self * 10 ^ length c.args.bytes.now + digits_value 10 c.args.bytes.now) =
    long_here (worth c.args.self) (worth c.loop-byte.number) _ c.loop-byte.byte-index c.args.bytes.now c.requires.digits c.loop-byte-test.true
    c.loop-byte.invariant.value byte.2 byte.1 c.in_err-number.ensures.long.0 c.in_err-number.ensures.long.1 in
    search rules

pub loop-byte-preserved : goal.loop-byte-preserved
loop-byte-preserved c =
    let byte = digit_byte c.args.bytes.now c.loop-byte.byte-index c.requires.digits c.loop-byte-test.true in
    record {
      value = more_read (worth c.args.self) (worth c.loop-byte.number) _ _ c.loop-byte.byte-index c.args.bytes.now c.loop-byte-test.true
          c.loop-byte.invariant.value byte.2 c.in_ok-number.ensures.value;
      zeros = omega (arith, c.in_ok-number.ensures.zeros);
    }
