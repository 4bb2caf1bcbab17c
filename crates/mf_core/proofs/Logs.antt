-- A log with one more entry.
use Rattle.std.proofs.Common.{◌≡◌, ◌∙◌, ℕ, suc, ◌+◌, ◌≤◌, ◌<◌, List, [], ◌∷◌, ◌++◌, length, Bool, true, false, Option, Some, None, ⊎_elim, refl, ap, sym, arith}
use Rattle.std.specs.Prelude.{◌==◌, nat_le, if◌then◌else◌}
use Rattle.std.proofs.lemmas.Bool.Decides.{nat_tests}
use Rattle.std.proofs.lemmas.Bool.{cases_eq, eq-eqb, ne_eqb, true≢false}
use Rattle.std.proofs.lemmas.List.{append-nil}
use Rattle.mf_edition.specs.declared.change.Change.{Change}
use Rattle.mf_edition.specs.declared.change.Entry.{Entry}
use Rattle.mf_edition.specs.declared.error.Refusal.{Refusal}
use Rattle.mf_edition.specs.declared.error.Refusal.TheVariants as full
use Rattle.mf_edition.specs.Sizes.{most_bytes, most_entries, refusal_of, size_of, used_by}
use Rattle.mf_legal.specs.Calls.{made_by}
use Rattle.mf_legal.proofs.Counts.{made-append, made_other, made_own}
use Rattle.mf_core.specs.Steps.{log_error}
use Rattle.mf_core.specs.Valid.{numbers_of, one_to, AreNumbered}

used-append : (log more : List Entry) → used_by (log ++ more) ≡ used_by log + used_by more
used-append [] more = omega arith
used-append (entry ∷ log) more = let further = used-append log more in omega arith

numbers-append : (n : ℕ) (log more : List Entry) → numbers_of n (log ++ more) ≡ numbers_of n log ++ numbers_of n more
numbers-append n [] more = refl
numbers-append n (entry ∷ log) more = by (entry.caller == n) (numbers-append n log more)
  where
    by : (b : Bool) → numbers_of n (log ++ more) ≡ numbers_of n log ++ numbers_of n more → (if b then entry.nth ∷ numbers_of n (log ++ more) else numbers_of n (log ++ more))
        ≡ (if b then entry.nth ∷ numbers_of n log else numbers_of n log) ++ numbers_of n more
    by true further = ap (λ l. entry.nth ∷ l) further
    by false further = further

no_error : (refusal : Option Refusal) → log_error refusal ≡ None → refusal ≡ None
no_error None is = refl
no_error (Some (full.EditionsFull entries)) is = absurd (cc)
no_error (Some (full.StoreFull used size)) is = absurd (cc)

-- a log that takes a change has room for its entry and for its bytes
pub takes : (log : List Entry) (change : Change) → log_error (refusal_of log change) ≡ None
    → (length log < most_entries) × (used_by log + size_of change ≤ most_bytes)
takes log change is = by (nat_le most_entries (length log)) (nat_le (used_by log + size_of change) most_bytes) refl refl (no_error (refusal_of log change) is)
  where
    by : (most small : Bool) → nat_le most_entries (length log) ≡ most → nat_le (used_by log + size_of change) most_bytes ≡ small
        → (if most then Some (full.EditionsFull (length log)) else (if small then None else Some (full.StoreFull (used_by log) (size_of change)))) ≡ None
        → (length log < most_entries) × (used_by log + size_of change ≤ most_bytes)
    by true small f s none = absurd (cc)
    by false false f s none = absurd (cc)
    by false true f s none = (grind (arith, nat_tests), grind (arith, nat_tests))

pub longer_used : (log : List Entry) (entry : Entry) → used_by log + size_of entry.change ≤ most_bytes → used_by (log ++ entry ∷ []) ≤ most_bytes
longer_used log entry small = omega (arith, used-append log (entry ∷ []))

-- the numbers of entries and callers after one more entry, of a joined caller
pub longer_numbers : (log : List Entry) (next : ℕ) (joined : ℕ → Bool) (made made' : ℕ → ℕ) (entry : Entry)
    → AreNumbered log next joined made → joined entry.caller ≡ true → entry.nth ≡ made entry.caller + 1
    → made' entry.caller ≡ made entry.caller + 1 → ((m : ℕ) → (m ≡ entry.caller → ⊥) → made' m ≡ made m)
    → AreNumbered (log ++ entry ∷ []) next joined made'
longer_numbers log next joined made made' entry old is nth own others =
    let n : ℕ = entry.caller in
    let count : made n ≡ made_by n log = old.made_count n is in
    let one : made_by n (log ++ entry ∷ []) ≡ made_by n log + 1 = omega (arith, made-append n log (entry ∷ []), made_own n entry refl) in
    let same : (m : ℕ) → (m ≡ n → ⊥) → made_by m (log ++ entry ∷ []) ≡ made_by m log =
    λ m other. omega (arith, made-append m log (entry ∷ []), made_other m entry (λ e. other (sym e))) in
    record {
      made_count = λ m j. ⊎_elim
          (λ (e : m ≡ n). ap made' e ∙ own ∙ ap (λ k. k + 1) count ∙ sym one ∙ ap (λ k. made_by k (log ++ entry ∷ [])) (sym e))
          (λ (other : m ≡ n → ⊥). others m other ∙ old.made_count m j ∙ sym (same m other)) (cases_eq m n);
      in_order = λ m. ⊎_elim
          (λ (e : m ≡ n). ap (λ k. numbers_of k (log ++ entry ∷ [])) e ∙ numbers-append n log (entry ∷ [])
          ∙ ap (λ b. numbers_of n log ++ (if b then entry.nth ∷ [] else [])) (eq-eqb n n refl)
          ∙ (λ i. old.in_order n i ++ (nth ∙ ap (λ k. k + 1) count) i ∷ [])
          ∙ more_numbers (made_by n log) ∙ ap one_to (sym one) ∙ ap (λ k. one_to (made_by k (log ++ entry ∷ []))) (sym e))
          (λ (other : m ≡ n → ⊥). numbers-append m log (entry ∷ [])
          ∙ ap (λ b. numbers_of m log ++ (if b then entry.nth ∷ [] else [])) (ne_eqb n m (λ e. other (sym e)))
          ∙ append-nil (numbers_of m log) ∙ old.in_order m ∙ ap one_to (sym (same m other))) (cases_eq m n);
      below = λ m far. same m (λ e. true≢false (sym is ∙ ap joined (sym e) ∙ old.later m far)) ∙ old.below m far;
      later = old.later;
    }
  where
    more_numbers : (k : ℕ) → one_to k ++ (k + 1) ∷ [] ≡ one_to (k + 1)
    more_numbers k = let next : suc k ≡ k + 1 = omega arith in ap one_to next
