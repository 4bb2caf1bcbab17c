-- Sums of which one term changes.
use Rattle.std.proofs.Common.{◌≡◌, ℕ, zero, suc, ◌+◌, ◌-◌, ◌*◌, ◌<◌, ◌≤◌, ◌^◌, ◌⊎◌, ⊎_elim, refl, ap, ◌∙◌, arith}
use Rattle.std.proofs.lemmas.Bool.{cases_eq}
use Rattle.mf_flight.specs.Sums.{sum_below, IsSum}

pub same_below : (f g : ℕ → ℕ) (n : ℕ) → ((i : ℕ) → i < n → g i ≡ f i) → sum_below g n ≡ sum_below f n
same_below f g zero same = refl
same_below f g (suc n) same =
    let before = same_below f g n (λ i less. same i (omega arith)) in let here = same n (omega arith) in omega arith

-- one term below n is another one
pub moved : (f g : ℕ → ℕ) (k n : ℕ) → k < n → ((i : ℕ) → (i ≡ k → ⊥) → g i ≡ f i) → sum_below g n + f k ≡ sum_below f n + g k
moved f g k zero less others = absurd (omega arith)
moved f g k (suc n) less others = ⊎_elim
    (λ (here : n ≡ k). let before = same_below f g n (λ i below. others i (λ same. omega arith)) in
    let a : f n ≡ f k = ap f here in let b : g n ≡ g k = ap g here in omega arith)
    (λ (there : n ≡ k → ⊥). let below : k < n = omega (arith, there, cases_eq n k) in let before = moved f g k n below others in let a = others n there in omega arith)
    (cases_eq n k)

-- where nothing is added from n on, a longer sum is the same
past : (f : ℕ → ℕ) (n m : ℕ) → ((i : ℕ) → n ≤ i → f i ≡ 0) → sum_below f (n + m) ≡ sum_below f n
past f n zero beyond = let e : n + 0 ≡ n = omega arith in ap (sum_below f) e
past f n (suc m) beyond =
    let before = past f n m beyond in let a = beyond (n + m) (omega arith) in
    let e : n + suc m ≡ suc (n + m) = omega arith in ap (sum_below f) e ∙ omega arith

bounded : (f : ℕ → ℕ) (b n : ℕ) → ((i : ℕ) → f i ≤ b) → sum_below f n ≤ n * b
bounded f b zero small = omega arith
bounded f b (suc n) small = let before = bounded f b n small in let here = small n in omega arith

more_reach : (f : ℕ → ℕ) (n m : ℕ) → n ≤ m → ((i : ℕ) → n ≤ i → f i ≡ 0) → sum_below f m ≡ sum_below f n
more_reach f n m more beyond = let e : m ≡ n + (m - n) = omega arith in ap (sum_below f) e ∙ past f n (m - n) beyond

-- the sum of which one term changes
pub sum_moved : (f g : ℕ → ℕ) (k old new : ℕ) → k < 2 ^ 32 → ((i : ℕ) → (i ≡ k → ⊥) → g i ≡ f i)
    → new + f k ≡ old + g k → IsSum f old → IsSum g new
sum_moved f g k old new less others change sum =
    let reach : ℕ = sum.reach + (k + 1 - sum.reach) in
    let a = more_reach f sum.reach reach (omega arith) sum.beyond in
    let b = moved f g k reach (omega arith) others in
    let c = sum.exact in
    record {
      reach = reach;
      within = let d = sum.within in omega arith;
      beyond = λ i past. others i (λ same. omega arith) ∙ sum.beyond i (omega arith);
      exact = omega arith;
    }

-- a sum of terms that are at most 2^31 has room for one more
pub sum_fits : (f : ℕ → ℕ) (total : ℕ) → ((i : ℕ) → f i ≤ 2147483648) → IsSum f total → total + 1 < 2 ^ 64
sum_fits f total small sum = let a = bounded f 2147483648 sum.reach small in let b = sum.within in let c = sum.exact in omega arith

-- one term is at most the sum
pub sum_has : (f : ℕ → ℕ) (k total : ℕ) → IsSum f total → f k ≤ total
sum_has f k total sum = ⊎_elim
    (λ (less : k < sum.reach). let a = has f k sum.reach less in let c = sum.exact in omega arith)
    (λ (more : sum.reach ≤ k). let a = sum.beyond k more in omega arith)
    (below_or_not k sum.reach)
  where
    below_or_not : (k n : ℕ) → (k < n) ⊎ (n ≤ k)
    below_or_not k n = grind arith

    has : (f : ℕ → ℕ) (k n : ℕ) → k < n → f k ≤ sum_below f n
    has f k zero less = absurd (omega arith)
    has f k (suc n) less = ⊎_elim (λ (here : n ≡ k). let a : f n ≡ f k = ap f here in omega arith)
        (λ (there : n ≡ k → ⊥). let b : k < n = omega (arith, there, cases_eq n k) in let a = has f k n b in omega arith) (cases_eq n k)
