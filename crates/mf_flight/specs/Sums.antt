-- Sums over all indices.
use Rattle.std.specs.Prelude.{◌≡◌, ◌+◌, ◌≤◌, ◌^◌, ℕ, zero, suc}

-- the sum over the numbers below one
abbrev pub sum_below : (ℕ → ℕ) → ℕ → ℕ
sum_below f zero = 0
sum_below f (suc n) = sum_below f n + f n

-- the sum over all numbers, where from some number on, which is at most 2^32, there is nothing to add
pub record IsSum (f : ℕ → ℕ) (total : ℕ) : Type 0 where
  pub reach : ℕ
  pub within : reach ≤ 2 ^ 32
  pub beyond : (i : ℕ) → reach ≤ i → f i ≡ 0
  pub exact : total ≡ sum_below f reach
