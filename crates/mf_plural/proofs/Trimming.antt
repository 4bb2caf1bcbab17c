-- Trailing zeros dropped one by one.
use Rattle.std.proofs.Common.{◌≡◌, ℕ, zero, suc, ◌-◌, ◌/◌, ◌%◌, ◌<◌, Bool, true, cond, ap, sym, arith}
use Rattle.std.specs.Prelude.{◌==◌}
use Rattle.std.proofs.lemmas.Bool.Decides.{nat_tests}
use Rattle.mf_plural.specs.Operands.{trimmed, trimmed_len}

is_zero : (n : ℕ) → n ≡ 0 → (n == 0) ≡ true
is_zero n e = grind (arith, nat_tests, e)

pub len_step : (len fraction : ℕ) → 0 < len → fraction % 10 ≡ 0 → trimmed_len (len - 1) (fraction / 10) ≡ trimmed_len len fraction
len_step zero fraction some last = absurd (omega (arith, some))
len_step (suc len) fraction some last =
    let before : suc len - 1 ≡ len = omega arith in
    rw before (sym (ap (λ (b : Bool). cond b (trimmed_len len (fraction / 10)) (suc len)) (is_zero (fraction % 10) last)))

pub value_step : (len fraction : ℕ) → 0 < len → fraction % 10 ≡ 0 → trimmed (len - 1) (fraction / 10) ≡ trimmed len fraction
value_step zero fraction some last = absurd (omega (arith, some))
value_step (suc len) fraction some last =
    let before : suc len - 1 ≡ len = omega arith in
    rw before (sym (ap (λ (b : Bool). cond b (trimmed len (fraction / 10)) fraction) (is_zero (fraction % 10) last)))
