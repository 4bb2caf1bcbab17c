use Rattle.std.proofs.Common.{◌*◌, ◌^◌, ◌≤◌, arith, refl}
use Rattle.mf_decimal.proofs.DigitSteps.{none_more, zeros_more, long_by_zeros, long_by_digits, digit_fits, digit_after, last_digit}
use Rattle.mf_decimal.proofs.significand.Significand.with_digit.Goals as goal
use Rattle.mf_decimal.proofs.significand.Significand.with_digit.Goals.{then-self-eq0, else-self-eq0, then-self-gt35-via-then-self-gt35, then-self-gt35-via-else-self-gt35+then-self-ten_to}

pub returns-then-digit-eq0-clause-value : goal.returns-then-digit-eq0-clause-value
returns-then-digit-eq0-clause-value c =
    let s = c.args.self in
    elim c.if-self-eq0.branch [
      | then-self-eq0 w ↦ none_more s.digits s.zeros c.if-self-eq0.zeros c.args.digit (omega arith) (omega arith)
      | else-self-eq0 w ↦ zeros_more s.digits s.zeros c.if-self-eq0.zeros c.args.digit (omega arith) (omega arith)
    ]

pub returns-then-self-gt35-clause-long : goal.returns-then-self-gt35-clause-long
returns-then-self-gt35-clause-long c =
    let s = c.args.self in
    let long : 10 ^ 35 ≤ s.digits * 10 ^ s.zeros =
    elim c.then-self-gt35.branch [
      | then-self-gt35-via-then-self-gt35 w ↦ long_by_zeros s.digits s.zeros (omega arith) s.none
      | then-self-gt35-via-else-self-gt35+then-self-ten_to w ↦ long_by_digits s.digits s.zeros (omega arith) (omega arith)
    ] in
    (long, omega arith)

pub overflow_mul-digits : goal.overflow_mul-digits
overflow_mul-digits c =
    let fits = digit_fits c.args.self.digits c.args.self.zeros 0 c.ten_to-2.result (omega arith) (omega arith) (omega arith) c.ten_to-2.ensures.value in
    omega arith

pub overflow_add-digits : goal.overflow_add-digits
overflow_add-digits c =
    let fits = digit_fits c.args.self.digits c.args.self.zeros c.from.result c.ten_to-2.result (omega arith) (omega arith) (omega arith) c.ten_to-2.ensures.value in
    omega arith

pub invariant_of-result-2 : goal.invariant_of-result-2
invariant_of-result-2 c =
    let s = c.args.self in
    let after = digit_after s.digits s.zeros c.from.result c.ten_to-2.result c.ten_to-2.ensures.value in
    let last = last_digit (s.digits * 10 ^ s.zeros) c.from.result (omega arith) in
    record {
      short = digit_fits s.digits s.zeros c.from.result c.ten_to-2.result (omega arith) (omega arith) (omega arith) c.ten_to-2.ensures.value;
      last = λ _. rw (after, last) (omega arith);
      none = λ _. refl;
    }

pub returns-clause-value : goal.returns-clause-value
returns-clause-value c =
    let s = c.args.self in
    omega (arith, digit_after s.digits s.zeros c.from.result c.ten_to-2.result c.ten_to-2.ensures.value)
