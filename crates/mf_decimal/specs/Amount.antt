-- Amounts: what numbers come to without their sign, as fractions of whole numbers.
use Rattle.std.specs.Prelude.{◌≡◌, ℕ, ◌+◌, ◌*◌, ◌^◌, ◌<◌, ◌≤◌, ℤ, pos, negsuc}
use Rattle.mf_decimal.specs.declared.decimal.Decimal.{Decimal}
use Rattle.mf_decimal.specs.declared.shown.Shown.{Shown}

-- `over` divided by `under`
pub record Amount : Type 0 where
  pub over : ℕ
  pub under : ℕ

-- the two fractions are one amount
abbrev pub IsSame : Amount → Amount → Type 0
IsSame x y = x.over * y.under ≡ y.over * x.under

-- x is at most y
abbrev pub IsAtMost : Amount → Amount → Type 0
IsAtMost x y = x.over * y.under ≤ y.over * x.under

-- x is below y
abbrev pub IsBelow : Amount → Amount → Type 0
IsBelow x y = x.over * y.under < y.over * x.under

-- so many times the amount x
abbrev pub times : ℕ → Amount → Amount
times count x = record { over = count * x.over; under = x.under }

-- the amount n over ten to the k
abbrev pub shifted : ℕ → ℕ → Amount
shifted n k = record { over = n; under = 10 ^ k }

-- ten to a power, which may be below zero
abbrev pub ten_to : ℤ → Amount
ten_to (pos k) = record { over = 10 ^ k; under = 1 }
ten_to (negsuc k) = record { over = 1; under = 10 ^ (k + 1) }

-- what a decimal comes to without its sign
abbrev pub amount : Decimal → Amount
amount x = shifted x.coefficient x.scale

-- what a shown number comes to without its sign
abbrev pub shown_amount : Shown → Amount
shown_amount y = shifted (y.whole * 10 ^ y.fraction_len + y.fraction) y.fraction_len
