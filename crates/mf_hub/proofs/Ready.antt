-- The messages that are ready, and how many there are.
use Rattle.std.proofs.Common.{◌≡◌, ◌≢◌, ◌∙◌, ◌⊎◌, ℕ, zero, suc, ◌+◌, ◌<◌, ◌≤◌, Bool, true, false, ◌==◌, List, [], ◌∷◌, if◌then◌else◌, ⊎_elim, refl, ap, sym, arith}
use Rattle.std.specs.List.{list_any}
use Rattle.std.proofs.lemmas.Bool.{cases_eq, eq-eqb, ne_eqb}
use Rattle.mf_flight.proofs.Sums.{same_below}
use Rattle.mf_flight.specs.Slots.{starts_of, taken}
use Rattle.mf_flight.specs.Sums.{sum_below, IsSum}
use Rattle.mf_flight.specs.declared.slot.Slot.{Slot}
use Rattle.mf_flight.specs.declared.slot.State.{State}
use Rattle.mf_flight.specs.declared.slot.State.TheVariants.{Claimed, Idle, Ready}
use Rattle.mf_legal.specs.Calls.{one_if}
use Rattle.mf_transcript.specs.Served.{count_among}
use Rattle.mf_hub.specs.Kept.{is_ready_state, passing_below}

abbrev is_among : List ℕ → ℕ → Bool
is_among indexes i = list_any (λ other. other == i) indexes

module _ (test : ℕ → Bool) where
  none_from : (n i : ℕ) → n ≤ i → is_among (passing_below test n) i ≡ false
  none_from zero i from = refl
  none_from (suc n) i from = by (test n) (none_from n i (omega (arith, from)))
    where
      here : (n == i) ≡ false
      here = ne_eqb n i (λ same. omega (arith, same, from))

      by : (b : Bool) → is_among (passing_below test n) i ≡ false → is_among (if b then n ∷ passing_below test n else passing_below test n) i ≡ false
      by true before = rw here before
      by false before = before

  passing_at : (n : ℕ) → is_among (passing_below test (suc n)) n ≡ test n
  passing_at n = by (test n)
    where
      by : (b : Bool) → is_among (if b then n ∷ passing_below test n else passing_below test n) n ≡ b
      by true = rw (eq-eqb n n refl) refl
      by false = none_from n n (omega arith)

  passing_before : (n i : ℕ) → i < n → is_among (passing_below test (suc n)) i ≡ is_among (passing_below test n) i
  passing_before n i less = by (test n)
    where
      by : (b : Bool) → is_among (if b then n ∷ passing_below test n else passing_below test n) i ≡ is_among (passing_below test n) i
      by true = rw (ne_eqb n i (λ same. omega (arith, same, less))) refl
      by false = refl

  passing_is : (n i : ℕ) → i < n → is_among (passing_below test n) i ≡ test i
  passing_is zero i less = absurd (omega (arith, less))
  passing_is (suc n) i less = ⊎_elim
      (λ (here : i ≡ n). ap (is_among (passing_below test (suc n))) here ∙ passing_at n ∙ sym (ap test here))
      (λ (before : i ≡ n → ⊥). let below : i < n = omega (arith, less, before, cases_eq i n) in passing_before n i below ∙ passing_is n i below)
      (cases_eq i n)

  -- the numbers below one that pass a test are all that pass it, where none does from there on
  pub passing_all : (n : ℕ) → ((i : ℕ) → n ≤ i → test i ≡ false) → (i : ℕ) → is_among (passing_below test n) i ≡ test i
  passing_all n beyond i = ⊎_elim (passing_is n i) (λ (from : n ≤ i). none_from n i from ∙ sym (beyond i from)) (below_or_not i n)
    where
      below_or_not : (k n : ℕ) → (k < n) ⊎ (n ≤ k)
      below_or_not k n = grind arith

  -- how many they are
  pub passing_count : (n : ℕ) → count_among (passing_below test n) n ≡ sum_below (λ i. one_if (test i)) n
  passing_count n =
      count_sum (passing_below test n) n
      ∙ same_below (λ i. one_if (test i)) (λ i. one_if (is_among (passing_below test n) i)) n (λ i less. ap one_if (passing_is n i less))
    where
      count_sum : (indexes : List ℕ) (n : ℕ) → count_among indexes n ≡ sum_below (λ i. one_if (is_among indexes i)) n
      count_sum indexes zero = refl
      count_sum indexes (suc n) = ap (λ m. m + one_if (is_among indexes n)) (count_sum indexes n)

-- none passes a test that is false of each
pub none_pass : (test : ℕ → Bool) (n : ℕ) → ((i : ℕ) → test i ≡ false) → passing_below test n ≡ []
none_pass test zero none = refl
none_pass test (suc n) none = rw (none n) (none_pass test n none)

pub same_pass : (test other : ℕ → Bool) (n : ℕ) → ((i : ℕ) → other i ≡ test i) → passing_below other n ≡ passing_below test n
same_pass test other zero same = refl
same_pass test other (suc n) same =
    let before = same_pass test other n same in
    λ i. if same n i then n ∷ before i else before i

-- nothing is added where each term is nothing
pub sum_none : (f : ℕ → ℕ) (n : ℕ) → ((i : ℕ) → f i ≡ 0) → sum_below f n ≡ 0
sum_none f zero none = refl
sum_none f (suc n) none = let before = sum_none f n none in let here = none n in omega arith

sum_both : (f g : ℕ → ℕ) (n : ℕ) → sum_below (λ i. f i + g i) n ≡ sum_below f n + sum_below g n
sum_both f g zero = refl
sum_both f g (suc n) = let before = sum_both f g n in omega arith

taken_is : {P : Type 0} (state : State P) → state ≢ Claimed → taken state ≡ one_if (is_ready_state state)
taken_is Idle free = refl
taken_is Claimed free = absurd (free refl)
taken_is (Ready plan) free = refl

-- starts are quits, and one more for each that is ready, where none is claimed
pub starts_split : {P : Type 0} (slots : ℕ → Slot P) (n : ℕ) → ((i : ℕ) → (slots i).state ≢ Claimed)
    → sum_below (λ i. starts_of (slots i)) n ≡ sum_below (λ i. (slots i).quits) n + sum_below (λ i. one_if (is_ready_state (slots i).state)) n
starts_split slots n free =
    same_below (λ i. (slots i).quits + one_if (is_ready_state (slots i).state)) (λ i. starts_of (slots i)) n
    (λ i less. ap (λ m. (slots i).quits + m) (taken_is (slots i).state (free i)))
    ∙ sum_both (λ i. (slots i).quits) (λ i. one_if (is_ready_state (slots i).state)) n

longer : (f : ℕ → ℕ) (n m : ℕ) → ((i : ℕ) → n ≤ i → f i ≡ 0) → sum_below f (n + m) ≡ sum_below f n
longer f n zero beyond = let none : n + 0 ≡ n = omega arith in ap (sum_below f) none
longer f n (suc m) beyond =
    let before = longer f n m beyond in
    let here = beyond (n + m) (omega arith) in
    let more : n + suc m ≡ suc (n + m) = omega arith in
    ap (sum_below f) more ∙ omega arith

-- a sum over all numbers is that below one from which there is nothing to add
pub sum_to : (f : ℕ → ℕ) (total n : ℕ) → IsSum f total → ((i : ℕ) → n ≤ i → f i ≡ 0) → total ≡ sum_below f n
sum_to f total n sum beyond =
    let turned : sum.reach + n ≡ n + sum.reach = omega arith in
    sum.exact ∙ sym (longer f sum.reach n sum.beyond) ∙ ap (sum_below f) turned ∙ longer f n sum.reach beyond
