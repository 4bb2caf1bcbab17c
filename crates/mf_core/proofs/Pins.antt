-- Which editions are live.
use Rattle.std.proofs.Common.{◌≡◌, ◌∙◌, ℕ, zero, suc, ◌+◌, ◌<◌, Bool, true, false, Some, ◌⊎◌, inl, inr, ⊎_elim, length, refl, ap, arith}
use Rattle.std.specs.Prelude.{◌==◌, nat_lt}
use Rattle.std.proofs.lemmas.Bool.Decides.{nat_tests}
use Rattle.std.proofs.lemmas.Bool.{cases_eq, eq-eqb, eqb-true}
use Rattle.mf_flight.specs.Sums.{sum_below}
use Rattle.mf_flight.proofs.Sums.{moved}
use Rattle.mf_legal.specs.Calls.{one_if}
use Rattle.mf_core.specs.declared.caller.CallerState.{CallerState}
use Rattle.mf_core.specs.Worlds.{World, is_at, is_live, pins, with_caller}
use Rattle.mf_core.proofs.Puts.{at_is, by_bool, here, is_at_some, or_cases, or_left, or_right, there}

one_of : (b : Bool) → 0 < one_if b → b ≡ true
one_of true more = refl
one_of false more = absurd (omega arith)

-- what is counted is there
counted : (f : ℕ → Bool) (n : ℕ) → 0 < sum_below (λ m. one_if (f m)) n → (m : ℕ) × (m < n) × (f m ≡ true)
counted f zero more = absurd (omega arith)
counted f (suc n) more = ⊎_elim (λ (yes : f n ≡ true). (n, omega arith, yes))
    (λ (no : f n ≡ false). let none : one_if (f n) ≡ 0 = ap one_if no in let t = counted f n (omega arith) in let less : t.0 < n = t.1 in (t.0, omega arith, t.2))
    (by_bool (f n))

-- what is there is counted
pub counts : (f : ℕ → Bool) (m n : ℕ) → m < n → f m ≡ true → 0 < sum_below (λ k. one_if (f k)) n
counts f m zero less is = absurd (omega arith)
counts f m (suc n) less is = ⊎_elim
    (λ (same : n ≡ m). let one : one_if (f n) ≡ 1 = ap (λ k. one_if (f k)) same ∙ ap one_if is in omega arith)
    (λ (other : n ≡ m → ⊥). let below : m < n = omega (arith, other, cases_eq n m) in let more = counts f m n below is in omega arith)
    (cases_eq n m)

below_is : (n : ℕ) → nat_lt 0 n ≡ true → 0 < n
below_is n test = grind (arith, nat_tests)

is_below : (n : ℕ) → 0 < n → nat_lt 0 n ≡ true
is_below n more = grind (arith, nat_tests)

-- a pinned edition is live
pub live_pin : (w : World) (n e : ℕ) → n < w.next → (w.caller n).pinned ≡ Some e → is_live w e ≡ true
live_pin w n e less is = or_right (e == length w.log) (nat_lt 0 (pins w e))
    (is_below (pins w e) (counts (λ m. is_at e (w.caller m).pinned) n w.next less (is_at_some e (w.caller n).pinned is)))

-- the newest edition is live
pub live_newest : (w : World) (e : ℕ) → e ≡ length w.log → is_live w e ≡ true
live_newest w e is = or_left (e == length w.log) (nat_lt 0 (pins w e)) (eq-eqb e (length w.log) is)

-- a live edition is the newest, or somebody pins it
pub live_cases : (w : World) (e : ℕ) → is_live w e ≡ true
    → (e ≡ length w.log) ⊎ ((n : ℕ) × (n < w.next) × ((w.caller n).pinned ≡ Some e))
live_cases w e is = ⊎_elim
    (λ (newest : (e == length w.log) ≡ true). inl (eqb-true e (length w.log) newest))
    (λ (pinned : nat_lt 0 (pins w e) ≡ true). let t = counted (λ m. is_at e (w.caller m).pinned) w.next (below_is (pins w e) pinned) in
    inr (t.0, t.1, at_is e (w.caller t.0).pinned t.2))
    (or_cases (e == length w.log) (nat_lt 0 (pins w e)) is)

-- the pins of an edition after one caller's state has changed
pub pins_moved : (w : World) (n : ℕ) (state : CallerState) (e : ℕ) → n < w.next
    → pins (with_caller w n state) e + one_if (is_at e (w.caller n).pinned) ≡ pins w e + one_if (is_at e state.pinned)
pins_moved w n state e less =
    let f : ℕ → ℕ = λ m. one_if (is_at e (w.caller m).pinned) in
    let g : ℕ → ℕ = λ m. one_if (is_at e ((with_caller w n state).caller m).pinned) in
    let change = moved f g n w.next less (λ i other. ap (λ (s : CallerState). one_if (is_at e s.pinned)) (there w.caller n state i other)) in
    let own : g n ≡ one_if (is_at e state.pinned) = ap (λ (s : CallerState). one_if (is_at e s.pinned)) (here w.caller n state n refl) in
    omega arith
