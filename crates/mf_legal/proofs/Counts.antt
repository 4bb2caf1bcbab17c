-- How many entries callers have in logs.
use Rattle.std.proofs.Common.{◌≡◌, ◌∙◌, ℕ, zero, suc, ◌+◌, ◌<◌, ◌≤◌, List, [], ◌∷◌, ◌++◌, Some, ap, arith}
use Rattle.std.specs.Prelude.{take}
use Rattle.std.specs.List.{slice_get}
use Rattle.std.proofs.lemmas.Bool.{eq-eqb, ne_eqb}
use Rattle.mf_edition.specs.declared.change.Entry.{Entry}
use Rattle.mf_legal.specs.Calls.{entry_at, made_by, one_if}

pub made-append : (caller : ℕ) (log more : List Entry) → made_by caller (log ++ more) ≡ made_by caller log + made_by caller more
made-append caller [] more = omega arith
made-append caller (entry ∷ log) more = let further = made-append caller log more in omega arith

-- one entry of a caller's own, and one of another's
pub made_own : (caller : ℕ) (entry : Entry) → entry.caller ≡ caller → made_by caller (entry ∷ []) ≡ 1
made_own caller entry own = ap (λ b. one_if b + 0) (eq-eqb entry.caller caller own)

pub made_other : (caller : ℕ) (entry : Entry) → (entry.caller ≡ caller → ⊥) → made_by caller (entry ∷ []) ≡ 0
made_other caller entry other = ap (λ b. one_if b + 0) (ne_eqb entry.caller caller other)

-- the entries up to one are those before it, and it
pub take_next : (log : List Entry) (j : ℕ) (entry : Entry) → slice_get log j ≡ Some entry → take (suc j) log ≡ take j log ++ entry ∷ []
take_next [] j entry at = absurd (grind arith)
take_next (first ∷ log) zero entry at = grind arith
take_next (first ∷ log) (suc j) entry at = ap (λ l. first ∷ l) (take_next log j entry at)

pub next_own : (caller : ℕ) (log : List Entry) (j : ℕ) (entry : Entry) → slice_get log j ≡ Some entry → entry.caller ≡ caller
    → made_by caller (take (suc j) log) ≡ made_by caller (take j log) + 1
next_own caller log j entry at own =
    ap (made_by caller) (take_next log j entry at) ∙ omega (arith, made-append caller (take j log) (entry ∷ []), made_own caller entry own)

pub next_other : (caller : ℕ) (log : List Entry) (j : ℕ) (entry : Entry) → slice_get log j ≡ Some entry → (entry.caller ≡ caller → ⊥)
    → made_by caller (take (suc j) log) ≡ made_by caller (take j log)
next_other caller log j entry at other =
    ap (made_by caller) (take_next log j entry at) ∙ omega (arith, made-append caller (take j log) (entry ∷ []), made_other caller entry other)

-- a longer front of a log has as many entries of a caller or more, and the whole log too
pub made_more : (caller : ℕ) (log : List Entry) (j k : ℕ) → j ≤ k → made_by caller (take j log) ≤ made_by caller (take k log)
made_more caller log zero k less = omega arith
made_more caller [] (suc j) k less = omega arith
made_more caller (entry ∷ log) (suc j) zero less = absurd (omega (arith, less))
made_more caller (entry ∷ log) (suc j) (suc k) less = omega (arith, made_more caller log j k (omega (arith, less)))

pub made_most : (caller : ℕ) (log : List Entry) (j : ℕ) → made_by caller (take j log) ≤ made_by caller log
made_most caller log zero = omega arith
made_most caller [] (suc j) = omega arith
made_most caller (entry ∷ log) (suc j) = omega (arith, made_most caller log j)

-- up to an entry of a caller's own it has more than before
pub made_rises : (caller : ℕ) (log : List Entry) (k : ℕ) (entry : Entry) → entry_at log k ≡ Some entry → entry.caller ≡ caller
    → (j : ℕ) → j < k → made_by caller (take j log) + 1 ≤ made_by caller (take k log)
made_rises caller log zero entry at own j less = absurd (omega (arith, less))
made_rises caller log (suc k) entry at own j less =
    omega (arith, next_own caller log k entry at own, made_more caller log j k (omega (arith, less)))
