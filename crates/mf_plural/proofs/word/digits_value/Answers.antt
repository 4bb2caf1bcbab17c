use Rattle.std.proofs.Common.{◌∙◌, arith}
use Rattle.mf_plural.proofs.Digits.{digit_here, more_below, more_room, more_value}
use Rattle.mf_plural.proofs.word.digits_value.Goals as goal

pub overflow_sub-digit : goal.overflow_sub-digit
overflow_sub-digit c = (digit_here c.args.digits.now c.loop-digit.digit-index c.requires c.loop-digit-test.true).0

pub overflow_mul-number : goal.overflow_mul-number
overflow_mul-number c =
    let room = more_room c.args.digits.now c.loop-digit.digit-index c.loop-digit.number c.requires c.loop-digit-test.true c.loop-digit.invariant.below in
    omega (arith, room)

pub overflow_add-number : goal.overflow_add-number
overflow_add-number c =
    let room = more_room c.args.digits.now c.loop-digit.digit-index c.loop-digit.number c.requires c.loop-digit-test.true c.loop-digit.invariant.below in
    let digit = digit_here c.args.digits.now c.loop-digit.digit-index c.requires c.loop-digit-test.true in
    omega (arith, room, digit.1, c.from.ensures)

pub loop-digit-preserved : goal.loop-digit-preserved
loop-digit-preserved c =
    let digit = digit_here c.args.digits.now c.loop-digit.digit-index c.requires c.loop-digit-test.true in
    record {
      value =
          more_value c.args.digits.now c.loop-digit.digit-index c.loop-digit.number c.from.result c.loop-digit-test.true c.loop-digit.invariant.value
          (c.from.ensures ∙ digit.2);
      below = more_below c.loop-digit.digit-index c.loop-digit.number c.from.result c.loop-digit.invariant.below (omega (arith, c.from.ensures, digit.1));
    }
