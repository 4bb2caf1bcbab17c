-- Which amounts are whole numbers.
use Rattle.std.proofs.Common.{◌≡◌, ◌∙◌, ℕ, zero, suc, ◌+◌, ◌*◌, ◌/◌, ◌%◌, ◌^◌, ◌<◌, ◌≤◌, Bool, true, false, cond, Option, Some, None, refl, ap, sym, arith}
use Rattle.std.specs.Prelude.{◌==◌}
use Rattle.std.proofs.lemmas.Bool.Decides.{nat_tests}
use Rattle.std.proofs.Math.Nat.{add-mul, add-mul-mod_self_right, mod-add-div', mod-lt, mod-zero, mul-div_cancel, mul-le-mul, mul-mod_left, mul_assoc, one-le-pow, zero-mul}
use Rattle.std.proofs.lemmas.Nat.{mod-mul-add}
use Rattle.std.proofs.lemmas.Option.{cond_some}
use Rattle.mf_plural.specs.Choice.{remainder, value_of, whole_of, whole_remainder}
use Rattle.mf_plural.specs.Operands.{Operands}
use Rattle.mf_plural.specs.declared.rule.Operand.{Operand}
use Rattle.mf_plural.specs.declared.rule.Operand.TheVariants.{Number, Whole, FractionLen, TrimmedLen, Fraction, Trimmed, Exponent}

is_zero : (n : ℕ) → n ≡ 0 → (n == 0) ≡ true
is_zero n e = grind (arith, nat_tests, e)

is_some : (n : ℕ) → 0 < n → (n == 0) ≡ false
is_some n h = grind (arith, nat_tests, h)

was_zero : (n : ℕ) → (n == 0) ≡ true → n ≡ 0
was_zero n e = grind (arith, nat_tests, e)

-- a multiple of the denominator is whole
pub is_whole : (x w u : ℕ) → 0 < u → x ≡ w * u → whole_of (record { over = x; under = u }) ≡ Some w
is_whole x w u some e =
    let none_left : x % u ≡ 0 = ap (λ (n : ℕ). n % u) e ∙ mul-mod_left w u in
    let times : x / u ≡ w = ap (λ (n : ℕ). n / u) e ∙ mul-div_cancel w some in
    ap (λ (b : Bool). cond b (Some (x / u)) None) (is_zero (x % u) none_left) ∙ ap Some times

-- and nothing else is
pub no_whole : (x u : ℕ) → 0 < x % u → whole_of (record { over = x; under = u }) ≡ None
no_whole x u some = ap (λ (b : Bool). cond b (Some (x / u)) None) (is_some (x % u) some)

-- what is whole is that many times its denominator
pub whole_times : (x u w : ℕ) → Some w ≡ whole_of (record { over = x; under = u }) → x ≡ w * u
whole_times x u w is =
    let parts = cond_some (x % u == 0) (x / u) w (sym is) in
    let none_left : x % u ≡ 0 = was_zero (x % u) parts.0 in
    let split = mod-add-div' x u in
    let times : x / u * u ≡ w * u = ap (λ (n : ℕ). n * u) parts.1 in
    omega (arith, split, none_left, times)

-- the remainder keeps what is left of the whole part
left_over : (x m u : ℕ) → x % (m * u) % u ≡ x % u
left_over x m u =
    let q = x / (m * u) in
    let r = x % (m * u) in
    let split : r + q * m * u ≡ x = ap (λ (n : ℕ). r + n) (mul_assoc q m u) ∙ mod-add-div' x (m * u) in
    sym (add-mul-mod_self_right r (q * m) u) ∙ ap (λ (n : ℕ). n % u) split

times_left : (w m u : ℕ) → 0 < m → 0 < u → (w * u) % (m * u) ≡ w % m * u
times_left w m u some under =
    let split : w / m * (m * u) + w % m * u ≡ w * u =
    ap (λ (n : ℕ). n + w % m * u) (sym (mul_assoc (w / m) m u)) ∙ sym (add-mul (w / m * m) (w % m) u) ∙ ap (λ (n : ℕ). n * u) (omega (arith, mod-add-div' w m)) in
    let below : w % m < m = mod-lt w some in
    let bound : (w % m + 1) * u ≤ m * u = mul-le-mul {n₁ = w % m + 1} {m₁ = u} {n₂ = m} {m₂ = u} (omega arith) (omega arith) in
    let short : w % m * u < m * u = omega (arith, bound, add-mul (w % m) 1 u) in
    ap (λ (n : ℕ). n % (m * u)) (sym split) ∙ mod-mul-add (w / m) (m * u) (w % m * u) short

some_remainder : (x u w m : ℕ) → 0 < u → x ≡ w * u → whole_of (record { over = x % (m * u); under = u }) ≡ Some (w % m)
some_remainder x u w zero under e =
    let same : x % (zero * u) ≡ w * u = ap (λ (n : ℕ). x % n) (zero-mul u) ∙ mod-zero x ∙ e in
    is_whole (x % (zero * u)) w u under same ∙ ap Some (sym (mod-zero w))
some_remainder x u w (suc m) under e =
    is_whole (x % (suc m * u)) (w % suc m) u under (ap (λ (n : ℕ). n % (suc m * u)) e ∙ times_left w (suc m) u (omega arith) under)

pub whole_left : (m : Option ℕ) (x u w : ℕ) → 0 < u → Some w ≡ whole_of (record { over = x; under = u })
    → Some (whole_remainder m w) ≡ whole_of (remainder m (record { over = x; under = u }))
whole_left None x u w under is = is
whole_left (Some m) x u w under is = sym (some_remainder x u w m under (whole_times x u w is))

fails : (b : Bool) (w : ℕ) → None ≡ cond b (Some w) None → b ≡ false
fails true w is = cc
fails false w is = refl

was_some : (n : ℕ) → (n == 0) ≡ false → 0 < n
was_some n e = grind (arith, nat_tests, e)

pub none_left : (m : Option ℕ) (x u : ℕ) → None ≡ whole_of (record { over = x; under = u })
    → None ≡ whole_of (remainder m (record { over = x; under = u }))
none_left None x u is = is
none_left (Some m) x u is =
    let some : 0 < x % u = was_some (x % u) (fails (x % u == 0) (x / u) is) in
    let there : 0 < x % (m * u) % u = omega (arith, some, left_over x m u) in
    sym (no_whole (x % (m * u)) u there)

ten_pos : (k : ℕ) → 0 < 10 ^ k
ten_pos k = omega (arith, one-le-pow k 10 (omega arith))

pub under_pos : (o : Operands) (operand : Operand) → 0 < (value_of o operand).under
under_pos o Number = ten_pos o.fraction_len
under_pos o Whole = ten_pos 0
under_pos o FractionLen = ten_pos 0
under_pos o TrimmedLen = ten_pos 0
under_pos o Fraction = ten_pos 0
under_pos o Trimmed = ten_pos 0
under_pos o Exponent = ten_pos 0

-- a whole number over one
pub over_one : (n : ℕ) → whole_of (record { over = n; under = 1 }) ≡ Some n
over_one n = is_whole n n 1 (omega arith) (omega arith)

-- the number itself, with no fraction and with one
pub number_whole : (w f u : ℕ) → 0 < u → f ≡ 0 → whole_of (record { over = w * u + f; under = u }) ≡ Some w
number_whole w f u under e = is_whole (w * u + f) w u under (omega (arith, e))

pub number_split : (w f u : ℕ) → f < u → 0 < f → whole_of (record { over = w * u + f; under = u }) ≡ None
number_split w f u short some =
    let left : (w * u + f) % u ≡ f = mod-mul-add w u f short in
    no_whole (w * u + f) u (omega (arith, left, some))
