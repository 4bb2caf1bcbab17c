-- The multiple of a unit that is nearest to a number, and the even one of two.
use Rattle.std.proofs.Common.{◌≡◌, ℕ, ◌+◌, ◌-◌, ◌*◌, ◌%◌, ◌<◌, ◌≤◌, refl, sym, ap, ◌∙◌, ⊎_elim, arith}
use Rattle.std.proofs.Math.Nat.{mul-le-mul, mul-le-mul_right, mul_comm, mul_assoc, mul-sub, eq_of_mul-eq-mul_right, add-mul}
use Rattle.std.proofs.lemmas.Bool.{cases_lt}
use Rattle.mf_decimal.specs.Rounding.{IsNearest, distance}

-- a multiple below the next one, and one from there on
multiple_below : (k q u : ℕ) → k < q → k * u + u ≤ q * u
multiple_below k q u less = omega (arith, mul-le-mul {n₁ = k + 1} {m₁ = u} {n₂ = q} {m₂ = u} (omega arith) (omega arith), add-mul k 1 u)

multiple_le : (k q u : ℕ) → k ≤ q → k * u ≤ q * u
multiple_le k q u le = mul-le-mul {n₁ = k} {m₁ = u} {n₂ = q} {m₂ = u} le (omega arith)

-- how far q * u + r is from the multiples of u
far_below : (x q u r k : ℕ) → x ≡ q * u + r → k ≤ q → r ≤ distance x (k * u)
far_below x q u r k e le = omega (arith, multiple_le k q u le)

far_above : (x q u r k : ℕ) → x ≡ q * u + r → r < u → q < k → u - r ≤ distance x (k * u)
far_above x q u r k e short less = omega (arith, multiple_below q k u less)

further_below : (x q u r k : ℕ) → x ≡ q * u + r → k < q → r + u ≤ distance x (k * u)
further_below x q u r k e less = omega (arith, multiple_below k q u less)

further_above : (x q u r k : ℕ) → x ≡ q * u + r → r < u → q + 1 < k → u - r + u ≤ distance x (k * u)
further_above x q u r k e short less = omega (arith, multiple_below (q + 1) k u less, add-mul q 1 u)

at_below : (x q u r : ℕ) → x ≡ q * u + r → distance x (q * u) ≡ r
at_below x q u r e = omega arith

at_above : (x q u r : ℕ) → x ≡ q * u + r → r < u → distance x ((q + 1) * u) ≡ u - r
at_above x q u r e short = omega (arith, add-mul q 1 u)

-- less than half is left
pub nearest_below : (x q u r : ℕ) → x ≡ q * u + r → r < u - r → IsNearest x u q
nearest_below x q u r e less = record {
  nearest = λ k. ⊎_elim
      (λ (more : q < k). omega (arith, far_above x q u r k e (omega arith) more, at_below x q u r e))
      (λ (le : k ≤ q). omega (arith, far_below x q u r k e le, at_below x q u r e))
      (cases_lt q k);
  even = λ k other same. absurd (⊎_elim
      (λ (more : q < k). omega (arith, far_above x q u r k e (omega arith) more, at_below x q u r e))
      (λ (le : k ≤ q). omega (arith, further_below x q u r k e (omega arith), at_below x q u r e))
      (cases_lt q k));
}

-- more than half is left
pub nearest_above : (x q u r : ℕ) → x ≡ q * u + r → r < u → u - r < r → IsNearest x u (q + 1)
nearest_above x q u r e short more = record {
  nearest = λ k. ⊎_elim
      (λ (above : q < k). omega (arith, far_above x q u r k e short above, at_above x q u r e short))
      (λ (le : k ≤ q). omega (arith, far_below x q u r k e le, at_above x q u r e short))
      (cases_lt q k);
  even = λ k other same. absurd (⊎_elim
      (λ (above : q < k). omega (arith, further_above x q u r k e short (omega arith), at_above x q u r e short))
      (λ (le : k ≤ q). omega (arith, far_below x q u r k e le, at_above x q u r e short))
      (cases_lt q k));
}

-- half is left
nearest_tie_at : (x q u r m : ℕ) → x ≡ q * u + r → r < u → u - r ≡ r → distance x (m * u) ≡ r → m % 2 ≡ 0 → IsNearest x u m
nearest_tie_at x q u r m e short half at even = record {
  nearest = λ k. ⊎_elim
      (λ (above : q < k). omega (arith, far_above x q u r k e short above))
      (λ (le : k ≤ q). omega (arith, far_below x q u r k e le))
      (cases_lt q k);
  even = λ k other same. even;
}

pub nearest_tie : (x q u r : ℕ) → x ≡ q * u + r → r < u → u - r ≡ r → IsNearest x u (q + q % 2)
nearest_tie x q u r e short half =
    ⊎_elim
    (λ (even : q % 2 < 1).
    let last : q % 2 ≡ 0 = omega arith in
    let same : q + q % 2 ≡ q = omega arith in
    nearest_tie_at x q u r (q + q % 2) e short half (ap (λ (m : ℕ). distance x (m * u)) same ∙ at_below x q u r e) (omega arith))
    (λ (odd : 1 ≤ q % 2).
    let last : q % 2 ≡ 1 = omega arith in
    let same : q + q % 2 ≡ q + 1 = omega arith in
    nearest_tie_at x q u r (q + q % 2) e short half (ap (λ (m : ℕ). distance x (m * u)) same ∙ at_above x q u r e short ∙ half) (omega arith))
    (cases_lt (q % 2) 1)

-- a multiple itself
pub nearest_exact : (x u m : ℕ) → m * u ≡ x → 0 < u → IsNearest x u m
nearest_exact x u m e some = record {
  nearest = λ k. omega arith;
  even = λ k other same. absurd (other (eq_of_mul-eq-mul_right u some k m (omega arith)));
}

-- a unit of one
pub nearest_one : (x m : ℕ) → IsNearest x 1 m → m ≡ x
nearest_one x m h = omega (arith, h.nearest x)

-- x and the unit times one factor
sub_times : (m n c : ℕ) → (m - n) * c ≡ m * c - n * c
sub_times m n c = mul_comm (m - n) c ∙ mul-sub c m n ∙ rw (mul_comm c m, mul_comm c n) refl

distance_times : (x y b : ℕ) → distance (x * b) (y * b) ≡ distance x y * b
distance_times x y b =
    ⊎_elim
    (λ (less : x < y).
    let le : x ≤ y = omega arith in
    let apart : distance x y ≡ y - x = omega arith in
    let more = mul-le-mul_right {m = x} {n = y} b le in
    rw apart (omega (arith, sub_times y x b)))
    (λ (le : y ≤ x).
    let apart : distance x y ≡ x - y = omega arith in
    let more = mul-le-mul_right {m = y} {n = x} b le in
    rw apart (omega (arith, sub_times x y b)))
    (cases_lt x y)

pub nearest_scaled : (x u m b : ℕ) → 0 < b → IsNearest x u m → IsNearest (x * b) (u * b) m
nearest_scaled x u m b some h =
    let at : (k : ℕ) → distance (x * b) (k * (u * b)) ≡ distance x (k * u) * b =
    λ k. ap (λ (y : ℕ). distance (x * b) y) (sym (mul_assoc k u b)) ∙ distance_times x (k * u) b in
    record {
      nearest = λ k. rw (at k, at m) (mul-le-mul_right b (h.nearest k));
      even = λ k other same. h.even k other (eq_of_mul-eq-mul_right b some (distance x (k * u)) (distance x (m * u)) (sym (at k) ∙ same ∙ at m));
    }

-- there is one nearest multiple
one_below : (x u m n : ℕ) → 0 < u → IsNearest x u m → IsNearest x u n → m < n → ⊥
one_below x u m n some h g less =
    let first = h.nearest n in
    let second = g.nearest m in
    let even_m = h.even n (omega arith) (omega arith) in
    let even_n = g.even m (omega arith) (omega arith) in
    let between : m + 1 < n = omega arith in
    let next = h.nearest (m + 1) in
    let far = multiple_below (m + 1) n u between in
    omega (arith, add-mul m 1 u)

pub one_nearest : (x u m n : ℕ) → 0 < u → IsNearest x u m → IsNearest x u n → m ≡ n
one_nearest x u m n some h g =
    ⊎_elim
    (λ (less : m < n). absurd (one_below x u m n some h g less))
    (λ (le : n ≤ m). ⊎_elim (λ (less : n < m). absurd (one_below x u n m some g h less)) (λ (ge : m ≤ n). omega arith) (cases_lt n m))
    (cases_lt m n)
