-- Whole numbers as decimals, and the whole part of a decimal.
use Rattle.std.specs.Prelude.{◌≡◌, ◌+◌, ◌<◌, ◌↔◌, ℤ, pos, neg_ℤ, IsTrue, if◌then◌else◌}
use Rattle.mf_decimal.specs.declared.decimal.Decimal.{Decimal}
use Rattle.mf_decimal.specs.Amount.{IsAtMost, IsBelow, amount, shifted}

-- the decimal is the whole number z
pub record IsWhole (x : Decimal) (z : ℤ) : Type 0 where
  pub scale : x.scale ≡ 0
  pub value : (if x.negative then neg_ℤ (pos x.coefficient) else pos x.coefficient) ≡ z

-- y is x cut toward zero: the whole number with x's sign that is at most x and less than one below it
pub record Cuts (x y : Decimal) : Type 0 where
  pub scale : y.scale ≡ 0
  pub at_most : IsAtMost (amount y) (amount x)
  pub near : IsBelow (amount x) (shifted (y.coefficient + 1) 0)
  pub sign : IsTrue y.negative ↔ (IsTrue x.negative × (0 < y.coefficient))
