-- Transcripts of callers over one log make one legal history.
use Rattle.std.proofs.Common.{◌≡◌, ◌∙◌, ℕ, zero, suc, ◌<◌, ◌≤◌, Bool, true, false, ltb, List, [], ◌∷◌, ◌++◌, length, ◌⊎◌, ⊎_elim, refl, ap, sym, subst, arith}
use Rattle.std.specs.Prelude.{◌==◌, map, if◌then◌else◌}
use Rattle.std.proofs.lemmas.Bool.{cases_eq, cases_lt, eq-eqb, eqb-false, eqb-true, le-ltb, lt-ltb, ne_eqb}
use Rattle.std.proofs.lemmas.List.{append-nil}
use Rattle.std.proofs.lemmas.List.Elements.{filter-append}
use Rattle.mf_edition.specs.declared.change.Entry.{Entry}
use Rattle.mf_legal.specs.Calls.{Sort, publication, look, apart, Call, calls_of, is_of, Exchange, exchange_of, Service}
use Rattle.mf_legal.specs.Transcripts.{answered, Fits, made_after}
use Rattle.mf_legal.specs.Histories.{Answers, by_caller, history, rounds, Stays, StaysAt}
use Rattle.mf_legal.specs.Laws.{TranscriptsAreLegal}
use Rattle.mf_legal.proofs.Exact.{Completes}
use Rattle.mf_legal.proofs.Objects.{answers}
use Rattle.mf_legal.proofs.Order.{calls_of-rounds, rounds_ascend, rounds_of_own}

either_way : {X : Type 0} (b : Bool) (xs : List X) → (if b then xs else xs) ≡ xs
either_way true xs = refl
either_way false xs = refl

module _ {Line Reply : Type 0} (service : Service Line Reply) (log : List Entry) where
  -- the calls that lead to the end for a caller are its own
  one_caller : (caller other : ℕ) (earlier : List (Call Line Reply)) (seen made : ℕ) (calls : List (Call Line Reply))
      → Completes service log caller earlier seen made calls → calls_of other calls ≡ (if caller == other then calls else [])
  one_caller caller other earlier seen made [] leads = sym (either_way (caller == other) [])
  one_caller caller other earlier seen made (call ∷ calls) leads =
      by (caller == other) refl (one_caller caller other (earlier ++ call ∷ []) call.edition (made_after made call.sort) calls leads.2)
    where
      by : (b : Bool) → (caller == other) ≡ b → calls_of other calls ≡ (if b then calls else []) → calls_of other (call ∷ calls) ≡ (if b then call ∷ calls else [])
      by true is further = rw (eq-eqb call.caller other (leads.0 ∙ eqb-true caller other is)) (ap (λ l. call ∷ l) further)
      by false is further = rw (ne_eqb call.caller other (λ same. eqb-false caller other is (sym leads.0 ∙ same))) further

  calls_stay : (caller : ℕ) (earlier : List (Call Line Reply)) (seen made : ℕ) (calls : List (Call Line Reply))
      → Completes service log caller earlier seen made calls → Stays service seen calls
  calls_stay caller earlier seen made [] leads = tt
  calls_stay caller earlier seen made (call ∷ calls) leads =
      (by call.sort leads.1, calls_stay caller (earlier ++ call ∷ []) call.edition (made_after made call.sort) calls leads.2)
    where
      by : (sort : Sort) → Fits service log caller earlier seen made call sort → StaysAt seen sort call.edition
      by (publication change) fits = tt
      by look fits = tt
      by apart fits = fits.1

  module _ (calls : ℕ → List (Call Line Reply)) (leads : (caller : ℕ) → Completes service log caller [] 0 0 (calls caller)) where
    -- of the calls of the callers below a number a caller's are its own, if it is below the number
    each_own : (n caller : ℕ) → calls_of caller (by_caller calls n) ≡ (if ltb caller n then calls caller else [])
    each_own zero caller = rw (le-ltb caller 0 (omega arith)) refl
    each_own (suc n) caller =
        filter-append (is_of caller) (by_caller calls n) (calls n)
        ∙ (λ i. each_own n caller i ++ one_caller n caller [] 0 0 (calls n) (leads n) i) ∙ by (cases_lt caller n) (cases_eq n caller)
      where
        by : (caller < n) ⊎ (n ≤ caller) → (n ≡ caller) ⊎ (n ≡ caller → ⊥)
            → ((if ltb caller n then calls caller else []) ++ (if n == caller then calls n else [])) ≡ (if ltb caller (suc n) then calls caller else [])
        by place same = ⊎_elim
            (λ less. simp (lt-ltb caller n less, lt-ltb caller (suc n) (omega (arith, less)), ne_eqb n caller (λ e. omega (arith, e, less))) (append-nil (calls caller)))
            (λ most. ⊎_elim
            (λ (e : n ≡ caller). let near : caller < suc n = omega (arith, e) in
            simp (le-ltb caller n most, lt-ltb caller (suc n) near, eq-eqb n caller e) (ap calls e))
            (λ other. simp (le-ltb caller n most, le-ltb caller (suc n) (omega (arith, other, most)), ne_eqb n caller other) refl) same)
            place

    ordered : (callers : ℕ) → ((caller : ℕ) → callers ≤ caller → calls caller ≡ [])
        → (caller : ℕ) → calls_of caller (history log callers calls) ≡ calls caller
    ordered callers none caller =
        let all : (if ltb caller callers then calls caller else []) ≡ calls caller =
        ⊎_elim (λ less. rw (lt-ltb caller callers less) refl) (λ most. rw (le-ltb caller callers most) (sym (none caller most))) (cases_lt caller callers) in
        calls_of-rounds caller (by_caller calls callers) (suc (length log))
        ∙ ap (λ l. rounds l (suc (length log))) (each_own callers caller ∙ all)
        ∙ rounds_of_own service log caller [] 0 0 (calls caller) (leads caller)

    replied : (callers : ℕ) → ((caller : ℕ) → callers ≤ caller → calls caller ≡ []) → Answers service [] [] (history log callers calls) log
    replied callers none =
        answers service log (history log callers calls) [] 0 0 (omega arith) (omega arith) (rounds_ascend (by_caller calls callers) (suc (length log)))
        (λ caller. record {
          seen = 0;
          made = 0;
          leads = subst (λ l. Completes service log caller [] 0 0 l) (sym (ordered callers none caller)) (leads caller);
          level = refl;
          so_far = refl;
        })

module _ {Line Reply : Type 0} (service : Service Line Reply) where
  no_calls : (calls : List (Call Line Reply)) (exchanges : List (Exchange Line Reply)) → map exchange_of calls ≡ answered service exchanges
      → exchanges ≡ [] → calls ≡ []
  no_calls [] exchanges theirs none = refl
  no_calls (call ∷ calls) [] theirs none = absurd (grind arith)
  no_calls (call ∷ calls) (exchange ∷ exchanges) theirs none = absurd (grind arith)

pub transcripts_are_legal : (Line Reply : Type 0) (service : Service Line Reply) → TranscriptsAreLegal Line Reply service
transcripts_are_legal Line Reply service log callers exchanges transcripts none quits = record {
  calls = calls;
  theirs = λ caller. (transcripts caller).theirs;
  stays = λ caller. calls_stay service log caller [] 0 0 (calls caller) (leads caller);
  replies = replied service log calls leads callers beyond;
  order = ordered service log calls leads callers beyond;
  quits = quits;
}
  where
    calls : ℕ → List (Call Line Reply)
    calls caller = (transcripts caller).calls

    leads : (caller : ℕ) → Completes service log caller [] 0 0 (calls caller)
    leads caller = (transcripts caller).steps

    beyond : (caller : ℕ) → callers ≤ caller → calls caller ≡ []
    beyond caller most = no_calls service (calls caller) (exchanges caller) (transcripts caller).theirs (none caller most)
