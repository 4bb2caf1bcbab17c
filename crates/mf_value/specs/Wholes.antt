-- Whole numbers as decimals.
use Rattle.std.specs.Prelude.{◌<◌, ◌≤◌, ◌^◌, ◌⊎◌, ℕ, suc, ℤ, pos, negsuc, Bool, true, false, IsTrue}
use Rattle.std.proofs.Common.{inl, inr, arith}
use Rattle.std.proofs.lemmas.Bool.{cases_lt, false≢true}
use Rattle.mf_decimal.specs.declared.decimal.Decimal.{Decimal}

-- so many, or so many below zero
abbrev pub whole_by : (negative : Bool) (c : ℕ) → (IsTrue negative → 0 < c) → (c < 10 ^ 36) ⊎ (10 ^ 36 ≤ c) → Decimal
whole_by negative c signed (inl short) =
    record { negative = negative; coefficient = c; scale = 0; short = short; near = omega arith; plain = λ h. absurd (omega arith); unsigned_zero = signed }
whole_by negative c signed (inr long) =
    record { negative = false; coefficient = 0; scale = 0; short = omega arith; near = omega arith; plain = λ h. absurd (omega arith); unsigned_zero = λ h. absurd (false≢true h) }

-- the whole number, which has at most 36 digits, as a decimal
unfoldable pub whole : ℤ → Decimal
whole (pos c) = whole_by false c (λ h. absurd (false≢true h)) (cases_lt c (10 ^ 36))
whole (negsuc c) = whole_by true (suc c) (λ h. omega arith) (cases_lt (suc c) (10 ^ 36))
