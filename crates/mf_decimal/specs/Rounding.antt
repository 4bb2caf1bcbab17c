-- Rounding to the digits that are shown, ties to even (the digit options of Unicode TS 35, Part 9, :number).
use Rattle.std.specs.Prelude.{◌≡◌, ◌≢◌, ℕ, ◌+◌, ◌-◌, ◌*◌, ◌%◌, ◌<◌, ◌≤◌, ◌↔◌, ℤ, pos, negsuc, neg_ℤ, ◌+ℤ◌, ◌-ℤ◌, IsTrue}
use Rattle.mf_decimal.specs.declared.decimal.Decimal.{Decimal}
use Rattle.mf_decimal.specs.declared.shown.Shown.{Shown}
use Rattle.mf_decimal.specs.declared.shown.Digits.{Digits}
use Rattle.mf_decimal.specs.declared.shown.Digits.TheVariants.{Fraction, Significant}
use Rattle.mf_decimal.specs.Amount.{Amount, IsSame, IsAtMost, IsBelow, times, ten_to, shifted, amount, shown_amount}

-- the ranges of the digits that can be asked for
abbrev pub IsInRange : Digits → Type 0
IsInRange (Fraction min max) = (min ≤ max) × (max ≤ 20)
IsInRange (Significant min max) = (1 ≤ min) × (min ≤ max) × (max ≤ 21)

-- the first digit of x stands at place p: x is at least ten to the p and below ten to the p + 1; zero has place 0
pub record IsFirstPlace (x : Amount) (p : ℤ) : Type 0 where
  pub at_least : 0 < x.over → IsAtMost (ten_to p) x
  pub below : 0 < x.over → IsBelow x (ten_to (p +ℤ pos 1))
  pub none : x.over ≡ 0 → p ≡ pos 0

-- what x is rounded to a multiple of is ten to the u
abbrev pub IsUnit : Digits → Amount → ℤ → Type 0
IsUnit (Fraction min max) x u = u ≡ neg_ℤ (pos max)
IsUnit (Significant min max) x u = (p : ℤ) × IsFirstPlace x p × (u ≡ p -ℤ pos max +ℤ pos 1)

-- how far a and b are apart
abbrev pub distance : ℕ → ℕ → ℕ
distance a b = (a - b) + (b - a)

-- of all multiples of the unit none is nearer to x than this one, and it is the even one of two that are equally near
pub record IsNearest (x unit count : ℕ) : Type 0 where
  pub nearest : (k : ℕ) → distance x (count * unit) ≤ distance x (k * unit)
  pub even : (k : ℕ) → k ≢ count → distance x (k * unit) ≡ distance x (count * unit) → count % 2 ≡ 0

-- y is x rounded to the unit of these digits, x and the unit being seen over one denominator
pub record RoundsTo (x : Amount) (digits : Digits) (y : Amount) : Type 0 where
  pub unit : ℤ
  pub is_unit : IsUnit digits x unit
  pub count : ℕ
  pub multiple : IsSame y (times count (ten_to unit))
  pub nearest : IsNearest (x.over * (ten_to unit).under) ((ten_to unit).over * x.under) count

-- n, or 0 where it is below zero
abbrev pub or_zero : ℤ → ℕ
or_zero (pos n) = n
or_zero (negsuc n) = 0

-- at least so many fraction digits are shown of the rounded amount y
abbrev pub IsLeast : Digits → Amount → ℕ → Type 0
IsLeast (Fraction min max) y least = least ≡ min
IsLeast (Significant min max) y least = (p : ℤ) × IsFirstPlace y p × (least ≡ or_zero (pos min -ℤ p -ℤ pos 1))

-- k fraction digits write x
pub record IsWritten (x : Amount) (k : ℕ) : Type 0 where
  pub digits : ℕ
  pub same : IsSame (shifted digits k) x

-- y has the fewest fraction digits that write it, of those that are at least so many
pub record IsShortest (y : Shown) (least : ℕ) : Type 0 where
  pub enough : least ≤ y.fraction_len
  pub fewest : (k : ℕ) → least ≤ k → IsWritten (shown_amount y) k → y.fraction_len ≤ k

-- y is x rounded to these digits and shown in them
pub record Rounds (x : Decimal) (digits : Digits) (y : Shown) : Type 0 where
  pub rounded : RoundsTo (amount x) digits (shown_amount y)
  pub least : ℕ
  pub is_least : IsLeast digits (shown_amount y) least
  pub shortest : IsShortest y least
  pub sign : IsTrue y.negative ↔ (IsTrue x.negative × (0 < (shown_amount y).over))
