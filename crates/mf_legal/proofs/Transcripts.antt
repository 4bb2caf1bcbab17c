-- In a legal history what each caller sent and got is its transcript.
use Rattle.std.proofs.Common.{◌≡◌, ◌∙◌, ℕ, suc, ◌+◌, ◌≤◌, List, [], ◌∷◌, ◌++◌, length, length-append, Some, ⊎_elim, refl, ap, sym, subst, arith, append_assoc}
use Rattle.std.specs.Prelude.{take}
use Rattle.std.specs.List.{slice_get}
use Rattle.std.proofs.lemmas.Bool.{cases_eq}
use Rattle.std.proofs.lemmas.List.{take_at}
use Rattle.mf_edition.specs.declared.change.Entry.{Entry}
use Rattle.mf_legal.specs.Calls.{entry_at, made_by, Sort, publication, look, apart, Call, calls_of, Service}
use Rattle.mf_legal.specs.Transcripts.{Fits, made_after}
use Rattle.mf_legal.specs.Histories.{Answers, Gives, history, log_after, Stays, StaysAt}
use Rattle.mf_legal.specs.Laws.{LegalHistoriesHaveTranscripts}
use Rattle.mf_legal.proofs.Counts.{made-append, made_other, made_own}
use Rattle.mf_legal.proofs.Exact.{Completes}
use Rattle.mf_legal.proofs.Fronts.{after_front, Longer, longer_both, same_longer}
use Rattle.mf_legal.proofs.Objects.{first_other, first_own, last_other, last_own}

call_longer : (log : List Entry) (caller : ℕ) (sort : Sort) → Longer log (log_after log caller sort)
call_longer log caller (publication change) = record { rest = record { caller = caller; nth = made_by caller log + 1; change = change } ∷ []; split = refl }
call_longer log caller look = same_longer log log refl
call_longer log caller apart = same_longer log log refl

-- a call is one more entry of its caller's, where it is a publication, and none of the others'
own_after : (log : List Entry) (caller : ℕ) (sort : Sort) → made_by caller (log_after log caller sort) ≡ made_after (made_by caller log) sort
own_after log caller (publication change) =
    let entry : Entry = record { caller = caller; nth = made_by caller log + 1; change = change } in
    omega (arith, made-append caller log (entry ∷ []), made_own caller entry refl)
own_after log caller look = refl
own_after log caller apart = refl

other_after : (log : List Entry) (other caller : ℕ) (sort : Sort) → (other ≡ caller → ⊥) → made_by caller (log_after log other sort) ≡ made_by caller log
other_after log other caller (publication change) differ =
    let entry : Entry = record { caller = other; nth = made_by other log + 1; change = change } in
    omega (arith, made-append caller log (entry ∷ []), made_other caller entry differ)
other_after log other caller look differ = refl
other_after log other caller apart differ = refl

module _ {Line Reply : Type 0} (service : Service Line Reply) (whole : List Entry) where
  -- the log at any point is a front of that at the end
  answers_longer : (calls before : List (Call Line Reply)) (log : List Entry) → Answers service log before calls whole → Longer log whole
  answers_longer [] before log answers = same_longer log whole (sym answers)
  answers_longer (call ∷ calls) before log answers =
      longer_both log (log_after log call.caller call.sort) whole (call_longer log call.caller call.sort)
      (answers_longer calls (before ++ call ∷ []) (log_after log call.caller call.sort) answers.1)

  -- what the object answers fits
  given : (log : List Entry) (before : List (Call Line Reply)) (seen : ℕ) (call : Call Line Reply) (sort : Sort) → seen ≤ length log
      → Longer (log_after log call.caller sort) whole → Gives service log before call sort → StaysAt seen sort call.edition
      → Fits service whole call.caller (calls_of call.caller before) seen (made_by call.caller log) call sort
      × (call.edition ≤ length (log_after log call.caller sort))
  given log before seen call (publication change) low longer gives stays =
      let entry : Entry = record { caller = call.caller; nth = made_by call.caller log + 1; change = change } in
      let here : slice_get whole (length log) ≡ Some entry =
      ap (λ (l : List Entry). slice_get l (length log)) (longer.split ∙ append_assoc log (entry ∷ []) longer.rest) ∙ after_front log longer.rest entry in
      let place : suc (length log) ≡ call.edition = omega (arith, gives.1) in
      let long = length-append log (entry ∷ []) in (
        (gives.0, omega (arith, low, gives.1), subst (λ k. entry_at whole k ≡ Some entry) place here),
        omega (arith, gives.1, long),
      )
  given log before seen call look low longer gives stays =
      let front : log ≡ take call.edition whole = sym (take_at log longer.rest call.edition (sym gives.1)) ∙ ap (take call.edition) (sym longer.split) in (
        (
          subst (λ l. service.Looks l (calls_of call.caller before) call.line call.reply) front gives.0,
          omega (arith, low, gives.1),
          omega (arith, gives.1, ap length longer.split, length-append log longer.rest),
        ),
        omega (arith, gives.1),
      )
  given log before seen call apart low longer gives stays = ((gives.0, stays), omega (arith, gives.1))

  module _ (log : List Entry) (before : List (Call Line Reply)) (call : Call Line Reply) (calls : List (Call Line Reply))
      (gives : Gives service log before call call.sort) (longer : Longer (log_after log call.caller call.sort) whole)
      (further : (caller seen : ℕ) → seen ≤ length (log_after log call.caller call.sort) → Stays service seen (calls_of caller calls)
      → Completes service whole caller (calls_of caller (before ++ call ∷ [])) seen (made_by caller (log_after log call.caller call.sort)) (calls_of caller calls)) where
    own_on : (seen : ℕ) → seen ≤ length log → Stays service seen (call ∷ calls_of call.caller calls)
        → Completes service whole call.caller (calls_of call.caller before) seen (made_by call.caller log) (call ∷ calls_of call.caller calls)
    own_on seen low stays = let now = given log before seen call call.sort low longer gives stays.0 in (
      refl,
      now.0,
      subst (λ m. Completes service whole call.caller (calls_of call.caller before ++ call ∷ []) call.edition m (calls_of call.caller calls))
          (own_after log call.caller call.sort)
          (subst (λ l. Completes service whole call.caller l call.edition (made_by call.caller (log_after log call.caller call.sort)) (calls_of call.caller calls))
          (last_own call.caller before call refl) (further call.caller call.edition now.1 stays.1)),
    )

    other_on : (caller seen : ℕ) → (call.caller ≡ caller → ⊥) → seen ≤ length log → Stays service seen (calls_of caller calls)
        → Completes service whole caller (calls_of caller before) seen (made_by caller log) (calls_of caller calls)
    other_on caller seen differ low stays =
        let one : Longer log (log_after log call.caller call.sort) = call_longer log call.caller call.sort in
        let grown : length (log_after log call.caller call.sort) ≡ length log + length one.rest = ap length one.split ∙ length-append log one.rest in
        subst (λ m. Completes service whole caller (calls_of caller before) seen m (calls_of caller calls)) (other_after log call.caller caller call.sort differ)
        (subst (λ l. Completes service whole caller l seen (made_by caller (log_after log call.caller call.sort)) (calls_of caller calls))
        (last_other caller before call differ) (further caller seen (omega (arith, low, grown)) stays))

    call_on : (caller seen : ℕ) → seen ≤ length log → Stays service seen (calls_of caller (call ∷ calls))
        → Completes service whole caller (calls_of caller before) seen (made_by caller log) (calls_of caller (call ∷ calls))
    call_on caller seen low stays = ⊎_elim
        (λ same.
        subst (λ c. Stays service seen (calls_of c (call ∷ calls)) → Completes service whole c (calls_of c before) seen (made_by c log) (calls_of c (call ∷ calls))) same
        (λ theirs. subst (λ l. Completes service whole call.caller (calls_of call.caller before) seen (made_by call.caller log) l)
        (sym (first_own call.caller call calls refl))
        (own_on seen low (subst (λ l. Stays service seen l) (first_own call.caller call calls refl) theirs)))
        stays)
        (λ differ. subst (λ l. Completes service whole caller (calls_of caller before) seen (made_by caller log) l) (sym (first_other caller call calls differ))
        (other_on caller seen differ low (subst (λ l. Stays service seen l) (first_other caller call calls differ) stays)))
        (cases_eq call.caller caller)

  -- what comes after a point of the history leads to the end for every caller
  leads_on : (calls before : List (Call Line Reply)) (log : List Entry) → Answers service log before calls whole
      → (caller seen : ℕ) → seen ≤ length log → Stays service seen (calls_of caller calls)
      → Completes service whole caller (calls_of caller before) seen (made_by caller log) (calls_of caller calls)
  leads_on [] before log answers caller seen low stays = (subst (λ (l : List Entry). seen ≤ length l) answers low, ap (made_by caller) answers)
  leads_on (call ∷ calls) before log answers caller seen low stays =
      call_on log before call calls answers.0 (answers_longer calls (before ++ call ∷ []) (log_after log call.caller call.sort) answers.1)
      (leads_on calls (before ++ call ∷ []) (log_after log call.caller call.sort) answers.1) caller seen low stays

pub legal_histories_have_transcripts : (Line Reply : Type 0) (service : Service Line Reply) → LegalHistoriesHaveTranscripts Line Reply service
legal_histories_have_transcripts Line Reply service log callers exchanges legal caller = record {
  calls = legal.calls caller;
  theirs = legal.theirs caller;
  steps = subst (λ l. Completes service log caller [] 0 0 l) (legal.order caller)
      (leads_on service log (history log callers legal.calls) [] [] legal.replies caller 0 (omega arith)
      (subst (λ l. Stays service 0 l) (sym (legal.order caller)) (legal.stays caller)));
}
