-- For private clauses: how many of a decimal's digits rounding drops.
use Rattle.std.specs.Prelude.{◌≡◌, ◌⊎◌, ℕ, ◌-◌, ◌*◌, ◌%◌, ◌^◌, ◌<◌, ◌≤◌, ℤ}
use Rattle.mf_decimal.specs.declared.decimal.Decimal.{Decimal}
use Rattle.mf_decimal.specs.declared.shown.Digits.{Digits}
use Rattle.mf_decimal.specs.Amount.{Amount, ten_to, amount}
use Rattle.mf_decimal.specs.Rounding.{IsUnit}

-- the unit is that of the last digit which is kept, or a finer one where none is dropped
abbrev pub KeepsUnit : Amount → ℕ → ℕ → Type 0
KeepsUnit unit scale drop =
    (unit.over * 10 ^ scale ≡ 10 ^ drop * unit.under) ⊎ ((drop ≡ 0) × ((k : ℕ) × (unit.over * 10 ^ scale * 10 ^ k ≡ unit.under)))

-- x is rounded to the unit of these digits where so many of its digits are dropped
pub record IsDrop (x : Decimal) (digits : Digits) (drop : ℕ) : Type 0 where
  pub unit : ℤ
  pub is_unit : IsUnit digits (amount x) unit
  pub keeps : KeepsUnit (ten_to unit) x.scale drop

-- so many digits write a number
pub record IsDigitCount (number count : ℕ) : Type 0 where
  pub some : 1 ≤ count
  pub at_least : 0 < number → 10 ^ (count - 1) ≤ number
  pub below : number < 10 ^ count
  pub zero : number ≡ 0 → count ≡ 1

-- a number over ten to the scale, after its trailing fraction zeros are dropped down to the least fraction digits
pub record IsTrimmed (number scale least number' scale' : ℕ) : Type 0 where
  pub fewer : scale' ≤ scale
  pub same : number' * 10 ^ (scale - scale') ≡ number
  pub enough : least ≤ scale → least ≤ scale'
  pub kept : scale ≤ least → scale' ≡ scale
  pub last : least < scale' → 0 < number' % 10
