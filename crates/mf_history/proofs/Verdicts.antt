-- What the lines of all callers say.
use Rattle.std.proofs.Common.{◌≡◌, ◌∙◌, ◌⊎◌, inl, inr, ℕ, zero, suc, ◌+◌, ◌<◌, ◌≤◌, List, [], ◌∷◌, ◌++◌, drop, slice_get, if◌then◌else◌, Some, refl, ap, sym, subst, arith}
use Rattle.std.proofs.lemmas.Bool.{cases_lt, ne_eqb}
use Rattle.std.proofs.lemmas.List.{length-map}
use Rattle.mf_edition.specs.declared.change.Entry.{Entry}
use Rattle.mf_transcript.proofs.Legal.{legal_lines, lines_are_legal}
use Rattle.mf_transcript.specs.Transcripts.{stands_at}
use Rattle.std.specs.Prelude.{encode_utf8_all}
use Rattle.mf_history.specs.Callers.{HasNothing}
use Rattle.mf_history.specs.Records.{callers_of, forgone_in, lines_in, replies_in, said_by, IsLegalRecord}
use Rattle.mf_history.specs.Verdicts.{FirstUnfit, Fits, IsFirstMisfit}
use Rattle.mf_history.specs.declared.transcript.Exchange.{Exchange}
use Rattle.mf_history.specs.declared.transcript.Transcript.{Transcript}

-- the lines of a caller with no entry and no line fit
pub nothing_fits : (most : ℕ) (log : List Entry) (transcripts : List Transcript) (caller : ℕ) → HasNothing log transcripts caller
    → Fits most log caller (said_by caller transcripts)
nothing_fits most log transcripts caller nothing =
    subst (Fits most log caller) (sym nothing.1)
    (record { transcript = record { end = stands_at caller log 0; steps = refl; within = omega arith; all = sym nothing.0 }; quits = tt })

said_none : (transcripts : List Transcript) (caller : ℕ) → callers_of transcripts ≤ caller → said_by caller transcripts ≡ []
said_none [] caller above = refl
said_none (transcript ∷ transcripts) caller above =
    ap (λ b. (if b then transcript.lines else []) ++ said_by caller transcripts) (ne_eqb transcript.caller caller (λ same. omega (arith, same, above)))
    ∙ said_none transcripts caller (omega (arith, above))

module _ (log : List Entry) (transcripts : List Transcript) where
  pub all_legal : ((caller : ℕ) → Fits (forgone_in transcripts) log caller (said_by caller transcripts)) → IsLegalRecord log transcripts
  all_legal fits =
      lines_are_legal log (callers_of transcripts) (λ caller. lines_in (said_by caller transcripts)) (λ caller. replies_in (said_by caller transcripts))
      (λ caller. (fits caller).transcript) (λ caller above. ap lines_in (said_none transcripts caller above)) (λ caller. (fits caller).quits)

  pub legal_fits : IsLegalRecord log transcripts → (caller : ℕ) → Fits (forgone_in transcripts) log caller (said_by caller transcripts)
  legal_fits legal caller = record {
    transcript = legal_lines log (callers_of transcripts) (λ c. lines_in (said_by c transcripts)) (λ c. replies_in (said_by c transcripts))
        (λ c. length-map (said_by c transcripts) (λ (e : Exchange). e.request) ∙ sym (length-map (said_by c transcripts) (λ (e : Exchange). encode_utf8_all e.reply)))
        legal caller;
    quits = legal.quits caller;
  }

  -- the callers below a number fit, and so do those that have nothing
  pub below_fits : (most from caller other : ℕ) → ((c : ℕ) → c < from → Fits most log c (said_by c transcripts))
      → ((c : ℕ) → from ≤ c → c < caller → HasNothing log transcripts c) → other < caller → Fits most log other (said_by other transcripts)
  below_fits most from caller other before nothing less = by (cases_lt other from)
    where
      by : (other < from) ⊎ (from ≤ other) → Fits most log other (said_by other transcripts)
      by (inl below) = before other below
      by (inr above) = nothing_fits most log transcripts other (nothing other above less)

  pub first_misfit : (caller place : ℕ) → ((other : ℕ) → other < caller → Fits (forgone_in transcripts) log other (said_by other transcripts))
      → FirstUnfit (forgone_in transcripts) log caller (said_by caller transcripts) place → IsFirstMisfit log transcripts caller place
  first_misfit caller place before here = record {
    illegal = λ legal. here.whole (legal_fits legal caller);
    before = before;
    here = here;
  }

-- what stands at an index, and the rest from it on
pub drop_here : {X : Type 0} (xs : List X) (i : ℕ) (x : X) → slice_get xs i ≡ Some x → drop i xs ≡ x ∷ drop (i + 1) xs
drop_here [] i x at = absurd (grind arith)
drop_here (first ∷ xs) zero x at = let same : first ≡ x = cc in ap (λ y. y ∷ xs) same
drop_here (first ∷ xs) (suc i) x at = let more : suc (i + 1) ≡ suc i + 1 = omega arith in drop_here xs i x at ∙ ap (λ n. x ∷ drop n (first ∷ xs)) more
