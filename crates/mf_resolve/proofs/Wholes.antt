-- The decimal of a whole number that fits 64 bits is that of the definition.
use Rattle.std.proofs.Common.{◌≡◌, ◌<◌, ◌≤◌, ◌^◌, ◌⊎◌, inl, inr, ℕ, zero, suc, ℤ, pos, negsuc, Bool, true, false, IsTrue, refl, ap, arith, if◌then◌else◌}
use Rattle.std.specs.Prelude.{neg_ℤ, unsigned_abs}
use Rattle.std.proofs.lemmas.Bool.{cases_lt, false≢true}
use Rattle.mf_decimal.specs.declared.decimal.Decimal.{Decimal}
use Rattle.mf_decimal.specs.Whole.{IsWhole}
use Rattle.mf_decimal.proofs.Unique.{decimal_same}
use Rattle.mf_value.specs.Wholes.{whole, whole_by}

by_size : (negative : Bool) (c : ℕ) (signed : IsTrue negative → 0 < c) (size : (c < 10 ^ 36) ⊎ (10 ^ 36 ≤ c)) (x : Decimal) →
    x.negative ≡ negative → x.coefficient ≡ c → x.scale ≡ 0 → x ≡ whole_by negative c signed size
by_size negative c signed (inl short) x e f g = decimal_same x (whole_by negative c signed (inl short)) e f g
by_size negative c signed (inr long) x e f g = let short = x.short in absurd (omega arith)

at_least : (negative : Bool) (n c : ℕ) → (IsTrue negative → 0 < n) → (if negative then neg_ℤ (pos n) else pos n) ≡ pos c → (negative ≡ false) × (n ≡ c)
at_least false n c some is = (refl, ap unsigned_abs is)
at_least true zero c some is = let less = some refl in absurd (omega arith)
at_least true (suc n) c some is = cc

below : (negative : Bool) (n c : ℕ) → (IsTrue negative → 0 < n) → (if negative then neg_ℤ (pos n) else pos n) ≡ negsuc c → (negative ≡ true) × (n ≡ suc c)
below false n c some is = cc
below true zero c some is = let less = some refl in absurd (omega arith)
below true (suc n) c some is = (refl, ap unsigned_abs is)

pub whole_is : (z : ℤ) (x : Decimal) → IsWhole x z → x ≡ whole z
unfolding whole
whole_is (pos c) x is =
    let sign = at_least x.negative x.coefficient c x.unsigned_zero is.value in
    by_size false c (λ h. absurd (false≢true h)) (cases_lt c (10 ^ 36)) x sign.0 sign.1 is.scale
whole_is (negsuc c) x is =
    let sign = below x.negative x.coefficient c x.unsigned_zero is.value in
    by_size true (suc c) (λ h. omega arith) (cases_lt (suc c) (10 ^ 36)) x sign.0 sign.1 is.scale
