use Rattle.std.proofs.Common.{◌*◌, ◌^◌, ◌<◌, ◌≤◌, ◌-◌, arith, refl}
use Rattle.mf_decimal.proofs.Placing.{same_down, same_up, wide_down, wide_up, wide_by_shift, wide_by_digits, fits_by_digits, some_placed}
use Rattle.mf_decimal.proofs.reading.placed.Goals as goal
use Rattle.mf_decimal.proofs.reading.placed.Goals.{then-shift-gt35-via-then-shift-gt35, then-shift-gt35-via-else-shift-gt35+then-digits-ten_to}

pub returns-then-scale-gt36-clause-wide : goal.returns-then-scale-gt36-clause-wide
returns-then-scale-gt36-clause-wide c = wide_down c.args.digits c.args.raised c.args.lowered c.requires.some (omega arith)

pub returns-then-lowered-raised-clause-value : goal.returns-then-lowered-raised-clause-value
returns-then-lowered-raised-clause-value c =
    record { sign = refl; some = omega (arith, c.requires.some); same = same_down c.args.digits c.args.raised c.args.lowered (omega arith) }

pub returns-then-shift-gt35-clause-wide : goal.returns-then-shift-gt35-clause-wide
returns-then-shift-gt35-clause-wide c =
    let n = c.args.digits in
    let shift = c.args.raised - c.args.lowered in
    let far : 10 ^ 36 ≤ n * 10 ^ shift =
    elim c.then-shift-gt35.branch [
      | then-shift-gt35-via-then-shift-gt35 w ↦ wide_by_shift n shift (omega (arith, c.requires.some)) (omega arith)
      | then-shift-gt35-via-else-shift-gt35+then-digits-ten_to w ↦ wide_by_digits n shift (omega arith) (omega arith)
    ] in
    wide_up n c.args.raised c.args.lowered (omega arith) far

pub overflow_mul-result : goal.overflow_mul-result
overflow_mul-result c =
    let fits = fits_by_digits c.args.digits (c.args.raised - c.args.lowered) c.ten_to-2.result (omega arith) (omega arith) c.ten_to-2.ensures.value in
    omega arith

pub invariant_of-result-2 : goal.invariant_of-result-2
invariant_of-result-2 c =
    let n = c.args.digits in
    let some : 0 < n = omega (arith, c.requires.some) in
    record {
      short = fits_by_digits n (c.args.raised - c.args.lowered) c.ten_to-2.result (omega arith) (omega arith) c.ten_to-2.ensures.value;
      near = omega arith;
      plain = λ h. absurd (omega arith);
      unsigned_zero = λ _. some_placed n (c.args.raised - c.args.lowered) c.ten_to-2.result some c.ten_to-2.ensures.value;
    }

pub returns-clause-value : goal.returns-clause-value
returns-clause-value c =
    let n = c.args.digits in
    let some : 0 < n = omega (arith, c.requires.some) in
    record {
      sign = refl;
      some = some_placed n (c.args.raised - c.args.lowered) c.ten_to-2.result some c.ten_to-2.ensures.value;
      same = same_up n c.args.raised c.args.lowered c.ten_to-2.result (omega arith) c.ten_to-2.ensures.value;
    }
