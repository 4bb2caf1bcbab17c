-- The whole part of a fraction.
use Rattle.std.proofs.Common.{◌≡◌, ℕ, ◌+◌, ◌*◌, ◌/◌, ◌<◌, ◌≤◌, ◌↔◌, Bool, true, false, not, IsTrue, sym, ◌∙◌, arith}
use Rattle.std.specs.Prelude.{◌==◌}
use Rattle.std.proofs.Math.Nat.{div-mul-le_self, lt-div-mul-add}
use Rattle.std.proofs.lemmas.Bool.{false≢true}
use Rattle.std.proofs.lemmas.Bool.Decides.{nat_tests}

pub cut_at_most : (c p q : ℕ) → p ≡ q → c / p * q ≤ c * 1
cut_at_most c p q e = rw (← e) (omega (arith, div-mul-le_self c p))

pub cut_near : (c p q : ℕ) → p ≡ q → 0 < p → c * 1 < (c / p + 1) * q
cut_near c p q e some = rw (← e) (omega (arith, lt-div-mul-add {a = c} {b = p} some))

-- a sign stays where something is left
pub sign_kept : (result negative : Bool) (n : ℕ) → negative ≡ true → result ≡ not (n == 0) → IsTrue result ↔ (IsTrue negative × (0 < n))
sign_kept result negative n below is = (λ r. (below, grind (arith, nat_tests)), λ both. grind (arith, nat_tests, both.1))

pub sign_none : (result negative : Bool) (n : ℕ) → negative ≡ false → result ≡ negative → IsTrue result ↔ (IsTrue negative × (0 < n))
sign_none result negative n above is = (λ r. absurd (false≢true (sym (is ∙ above) ∙ r)), λ both. absurd (false≢true (sym above ∙ both.0)))
