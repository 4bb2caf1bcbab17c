-- Sums over the numbers below one.
use Rattle.std.proofs.Common.{◌≡◌, ◌∙◌, ⊎_elim, eqb, ℕ, zero, suc, ◌+◌, ◌<◌, ◌≤◌, List, [], ◌∷◌, length, refl, ap, arith, add-one}
use Rattle.std.proofs.lemmas.Bool.{cases_eq}
use Rattle.std.proofs.lemmas.Bool.Decides.{nat_tests}
use Rattle.mf_flight.specs.Sums.{sum_below}
use Rattle.mf_turn.specs.Sums.{once_below, times}
use Rattle.mf_turn.specs.Sums.{one_if as once_if}
use Rattle.mf_turn.proofs.Lists.{one_if-same}

pub sum-next : (f : ℕ → ℕ) (k : ℕ) → sum_below f (k + 1) ≡ sum_below f k + f k
sum-next f k = rw add-one refl

pub sum-plus : (f g : ℕ → ℕ) (k : ℕ) → sum_below (λ m. f m + g m) k ≡ sum_below f k + sum_below g k
sum-plus f g zero = refl
sum-plus f g (suc k) = let h = sum-plus f g k in omega arith

-- where each is at most one
pub sum_most : (f : ℕ → ℕ) (k : ℕ) → ((m : ℕ) → m < k → f m ≤ 1) → sum_below f k ≤ k
sum_most f zero each = omega arith
sum_most f (suc k) each = let h = sum_most f k (λ m l. each m (omega arith)) in let a = each k (omega arith) in omega arith

-- where each is one
pub sum_ones : (f : ℕ → ℕ) (k : ℕ) → ((m : ℕ) → m < k → f m ≡ 1) → sum_below f k ≡ k
sum_ones f zero each = refl
sum_ones f (suc k) each = let h = sum_ones f k (λ m l. each m (omega arith)) in let a = each k (omega arith) in omega arith

-- where the sum is nothing
pub sum_none : (f : ℕ → ℕ) (k m : ℕ) → sum_below f k ≡ 0 → m < k → f m ≡ 0
sum_none f zero m nothing l = absurd (omega arith)
sum_none f (suc k) m nothing l = ⊎_elim
    (λ (e : m ≡ k). let h : f k ≡ 0 = omega arith in ap f e ∙ h)
    (λ (other : m ≡ k → ⊥). sum_none f k m (omega arith) (omega (arith, other, cases_eq m k)))
    (cases_eq m k)

-- where each is nothing
pub sum_nothing : (g : ℕ → ℕ) (n : ℕ) → ((i : ℕ) → g i ≡ 0) → sum_below g n ≡ 0
sum_nothing g zero nothing = refl
sum_nothing g (suc n) nothing = let h = sum_nothing g n nothing in let a = nothing n in omega arith

-- where each is no more than another
pub sum_fewer : (f g : ℕ → ℕ) (n : ℕ) → ((i : ℕ) → g i ≤ f i) → sum_below g n ≤ sum_below f n
sum_fewer f g zero less = omega arith
sum_fewer f g (suc n) less = let h = sum_fewer f g n less in let a = less n in omega arith

once-suc : (y k : ℕ) → once_below y (suc k) ≡ once_below y k + once_if (eqb y k)
once-suc y k = grind (arith, nat_tests)

-- one number, over all below
sum_single : (y k : ℕ) → sum_below (λ m. once_if (eqb y m)) k ≡ once_below y k
sum_single y zero = grind (arith, nat_tests)
sum_single y (suc k) = let h = sum_single y k in let s = once-suc y k in omega arith

pub once_there : (y k : ℕ) → y < k → once_below y k ≡ 1
once_there y k l = grind (arith, nat_tests)

-- how often each number stands in a list, over all below, where all of it is below
pub sum_times : (xs : List ℕ) (k : ℕ) → ((n : ℕ) → 0 < times n xs → n < k) → sum_below (λ m. times m xs) k ≡ length xs
sum_times [] k below = sum_nothing (λ m. 0) k (λ i. refl)
sum_times (y ∷ ys) k below =
    let plus = sum-plus (λ m. once_if (eqb y m)) (λ m. times m ys) k in
    let rest = sum_times ys k (λ n has. below n (omega arith)) in
    let single = sum_single y k in
    let mine = one_if-same y in
    let here = once_there y k (below y (omega arith)) in
    omega arith
