-- For private clauses: the digits of a number as they are read.
use Rattle.std.specs.Prelude.{◌≡◌, ℕ, Bool, ◌+◌, ◌*◌, ◌%◌, ◌^◌, ◌<◌, ◌≤◌}
use Rattle.mf_decimal.specs.declared.decimal.Decimal.{Decimal}
use Rattle.mf_decimal.specs.Amount.{Amount, IsSame, amount}
use Rattle.mf_decimal.specs.declared.significand.Significand.{Significand}

-- the number that the digits and the zeros after them write
abbrev pub worth : Significand → ℕ
worth s = s.digits * 10 ^ s.zeros

-- more than 36 digits stand before the last one that is no zero
pub record IsLong (number : ℕ) : Type 0 where
  pub front : ℕ
  pub rest_len : ℕ
  pub rest : ℕ
  pub parts : number ≡ front * 10 ^ rest_len + rest
  pub short : rest < 10 ^ rest_len
  pub long : 10 ^ 36 ≤ front
  pub last : 0 < front % 10

-- the decimal is not zero, and has this sign and this amount
pub record IsPlaced (x : Decimal) (negative : Bool) (y : Amount) : Type 0 where
  pub sign : x.negative ≡ negative
  pub some : 0 < x.coefficient
  pub same : IsSame (amount x) y
