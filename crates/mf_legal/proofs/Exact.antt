-- Calls that lead to all entries of their caller pass none of them over.
use Rattle.std.proofs.Common.{ℕ, ◌≤◌, List, [], ◌∷◌, ◌++◌, length, refl, subst, arith}
use Rattle.std.specs.Prelude.{take}
use Rattle.mf_edition.specs.declared.change.Entry.{Entry}
use Rattle.mf_legal.specs.Calls.{made_by, Sort, publication, look, apart, Call, Service}
use Rattle.mf_legal.specs.Transcripts.{made_after, Fits, IsEnd, Leads}
use Rattle.mf_legal.proofs.Counts.{made_more, made_most, made_rises}

module _ {Line Reply : Type 0} (service : Service Line Reply) (log : List Entry) (caller : ℕ) where
  -- calls that lead to all entries of their caller
  abbrev pub Completes : List (Call Line Reply) → ℕ → ℕ → List (Call Line Reply) → Type 0
  Completes = Leads service (IsEnd service log caller) log caller

  -- the caller has no more entries up to the edition seen than it has made, and that edition is one of the log
  pub exact : (earlier : List (Call Line Reply)) (seen made : ℕ) (calls : List (Call Line Reply)) → Completes earlier seen made calls
      → (made_by caller (take seen log) ≤ made) × (seen ≤ length log)
  exact earlier seen made [] leads = (omega (arith, made_most caller log seen, leads.1), leads.0)
  exact earlier seen made (call ∷ calls) leads =
      by call.sort leads.1 (exact (earlier ++ call ∷ []) call.edition (made_after made call.sort) calls leads.2)
    where
      by : (sort : Sort) → Fits service log caller earlier seen made call sort
          → (made_by caller (take call.edition log) ≤ made_after made sort) × (call.edition ≤ length log)
          → (made_by caller (take seen log) ≤ made) × (seen ≤ length log)
      by (publication change) fits further =
          (omega (arith, further.0, made_rises caller log call.edition _ fits.2 refl seen fits.1), omega (arith, further.1, fits.1))
      by look fits further = (omega (arith, further.0, made_more caller log seen call.edition fits.1), omega (arith, further.1, fits.1))
      by apart fits further = subst (λ k. (made_by caller (take k log) ≤ made) × (k ≤ length log)) fits.1 further
