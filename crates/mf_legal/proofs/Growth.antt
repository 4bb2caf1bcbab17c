-- A transcript stays one when others make more entries.
use Rattle.std.proofs.Common.{◌≡◌, ℕ, zero, suc, List, [], ◌∷◌, ◌++◌, length-append, Some, ap, sym, subst, arith}
use Rattle.std.specs.Prelude.{take}
use Rattle.mf_edition.specs.declared.change.Entry.{Entry}
use Rattle.mf_legal.specs.Calls.{entry_at, made_by, Sort, publication, look, apart, Call, Service}
use Rattle.mf_legal.specs.Transcripts.{Fits, made_after}
use Rattle.mf_legal.specs.Laws.{TranscriptsStay}
use Rattle.mf_legal.proofs.Counts.{made-append}
use Rattle.mf_legal.proofs.Exact.{Completes}
use Rattle.mf_legal.proofs.Fronts.{get_front, take_front}

entry_stays : (log more : List Entry) (k : ℕ) (entry : Entry) → entry_at log k ≡ Some entry → entry_at (log ++ more) k ≡ Some entry
entry_stays log more zero entry at = absurd (grind arith)
entry_stays log more (suc k) entry at = get_front log more k entry at

module _ {Line Reply : Type 0} (service : Service Line Reply) (log more : List Entry) (caller : ℕ) (none : made_by caller more ≡ 0) where
  fits_stays : (earlier : List (Call Line Reply)) (seen made : ℕ) (call : Call Line Reply) (sort : Sort)
      → Fits service log caller earlier seen made call sort → Fits service (log ++ more) caller earlier seen made call sort
  fits_stays earlier seen made call (publication change) fits = (fits.0, fits.1, entry_stays log more call.edition _ fits.2)
  fits_stays earlier seen made call look fits = (
    subst (λ (l : List Entry). service.Looks l earlier call.line call.reply) (sym (take_front log more call.edition fits.2)) fits.0,
    fits.1,
    omega (arith, fits.2, length-append log more),
  )
  fits_stays earlier seen made call apart fits = fits

  completes_stays : (earlier : List (Call Line Reply)) (seen made : ℕ) (calls : List (Call Line Reply))
      → Completes service log caller earlier seen made calls → Completes service (log ++ more) caller earlier seen made calls
  completes_stays earlier seen made [] leads =
      (omega (arith, leads.0, length-append log more), omega (arith, leads.1, made-append caller log more, none))
  completes_stays earlier seen made (call ∷ calls) leads = (
    leads.0,
    fits_stays earlier seen made call call.sort leads.1,
    completes_stays (earlier ++ call ∷ []) call.edition (made_after made call.sort) calls leads.2,
  )

pub transcripts_stay : (Line Reply : Type 0) (service : Service Line Reply) → TranscriptsStay Line Reply service
transcripts_stay Line Reply service log more caller from exchanges low none transcript = record {
  calls = transcript.calls;
  theirs = transcript.theirs;
  steps = subst (λ made. Completes service (log ++ more) caller [] from made transcript.calls) (ap (made_by caller) (sym (take_front log more from low)))
      (completes_stays service log more caller none [] from (made_by caller (take from log)) transcript.calls transcript.steps);
}
