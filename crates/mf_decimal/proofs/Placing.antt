-- Digits moved by a power of ten: the decimal that they are, or that they are too wide for one.
use Rattle.std.proofs.Common.{◌≡◌, ℕ, ◌+◌, ◌-◌, ◌*◌, ◌^◌, ◌<◌, ◌≤◌, ◌%◌, inl, inr, refl, arith}
use Rattle.std.proofs.Math.Nat.{mul-le-mul, mul-lt-mul_of_pos_right, mul-pos}
use Rattle.mf_decimal.specs.Amount.{IsSame, shifted}
use Rattle.mf_decimal.specs.Grammar.{IsWide}
use Rattle.mf_decimal.proofs.Tens.{ten_pos, ten_le, ten_sum}

-- moved down past all zeros
pub same_down : (n up down : ℕ) → up ≤ down → IsSame (shifted n (down - up)) (shifted (n * 10 ^ up) down)
same_down n up down below = rw (← ten_sum up (down - up) down (omega arith)) (omega arith)

-- moved up
pub same_up : (n up down p : ℕ) → down ≤ up → p ≡ 10 ^ (up - down) → IsSame (shifted (n * p) 0) (shifted (n * 10 ^ up) down)
same_up n up down p above e = rw (e, ← ten_sum (up - down) down up (omega arith)) (omega arith)

pub wide_down : (n up down : ℕ) → 0 < n % 10 → up + 36 < down → IsWide (shifted (n * 10 ^ up) down)
wide_down n up down last far = record {
  coefficient = n;
  scale = down - up;
  plain = record { same = same_down n up down (omega arith); short = λ _. last };
  wide = inr (omega arith);
}

pub wide_up : (n up down : ℕ) → down ≤ up → 10 ^ 36 ≤ n * 10 ^ (up - down) → IsWide (shifted (n * 10 ^ up) down)
wide_up n up down above far = record {
  coefficient = n * 10 ^ (up - down);
  scale = 0;
  plain = record { same = same_up n up down _ above refl; short = λ h. absurd (omega arith) };
  wide = inl far;
}

pub wide_by_shift : (n k : ℕ) → 0 < n → 35 < k → 10 ^ 36 ≤ n * 10 ^ k
wide_by_shift n k some far =
    let at_least = mul-le-mul {n₁ = 1} {m₁ = 10 ^ 36} {n₂ = n} {m₂ = 10 ^ k} some (ten_le 36 k far) in
    omega arith

pub wide_by_digits : (n k : ℕ) → k ≤ 35 → 10 ^ (36 - k) ≤ n → 10 ^ 36 ≤ n * 10 ^ k
wide_by_digits n k near long =
    let at_least = mul-le-mul {n₁ = 10 ^ (36 - k)} {m₁ = 10 ^ k} {n₂ = n} {m₂ = 10 ^ k} long (omega arith) in
    let power = ten_sum (36 - k) k 36 (omega arith) in
    omega arith

pub fits_by_digits : (n k p : ℕ) → k ≤ 35 → n < 10 ^ (36 - k) → p ≡ 10 ^ k → n * p < 10 ^ 36
fits_by_digits n k p near short e =
    let below = mul-lt-mul_of_pos_right {m = n} {n = 10 ^ (36 - k)} {k = p} short (rw e (ten_pos k)) in
    let power : 10 ^ (36 - k) * p ≡ 10 ^ 36 = rw e (ten_sum (36 - k) k 36 (omega arith)) in
    omega arith

pub some_placed : (n k p : ℕ) → 0 < n → p ≡ 10 ^ k → 0 < n * p
some_placed n k p some e = mul-pos {m = n} {n = p} some (rw e (ten_pos k))
