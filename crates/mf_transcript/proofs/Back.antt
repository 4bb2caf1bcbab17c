-- Calls that lines and replies mean are a transcript of these.
use Rattle.std.proofs.Common.{◌≡◌, ◌∙◌, ℕ, zero, suc, ◌≤◌, Bool, true, false, not, List, [], ◌∷◌, ◌++◌, length, map, take, Some, cond, refl, ap, sym, subst, subst₂, arith}
use Rattle.std.specs.Str.{bytes_eq}
use Rattle.std.proofs.lemmas.Slice.Eq.{bytes_eq-Decides}
use Rattle.mf_edition.specs.declared.change.Entry.{Entry}
use Rattle.mf_legal.specs.Calls.{entry_at, made_by, Exchange, Sort, publication, look, apart, exchange_of}
use Rattle.mf_legal.specs.Transcripts.{answered, made_after, Fits, IsEnd, Leads}
use Rattle.mf_legal.specs.Transcripts as legal
use Rattle.mf_wire.specs.Replies.{memory_line}
use Rattle.mf_transcript.specs.Asked.{request_of}
use Rattle.mf_transcript.specs.Laws.{TranscriptsAreOfCalls}
use Rattle.mf_transcript.specs.Lines.{answers, counts, exchanges_of, line_service, refuses, served_in, Looks}
use Rattle.mf_transcript.specs.Served.{in_edition, served_by, served_for, with_edition}
use Rattle.mf_transcript.specs.Steps.{no_memory, stands_apart, is_accepted, is_refused, is_answered, is_counted, gets, makes, sees, Standing, Step}
use Rattle.mf_transcript.specs.Transcripts.{stands_at, Steps, Transcript}
use Rattle.mf_transcript.proofs.Calls.{adds_none, adds_some, apart_serves, of_calls, LineCall}
use Rattle.mf_transcript.proofs.Fronts.{all_served, answers_same, counts_same, front_again, front_length, refuses_same, served_in_front}

no_first : {X : Type 0} (x : X) (xs : List X) → x ∷ xs ≡ [] → ⊥
no_first x xs is = cc

first_same : {X : Type 0} (x y : X) (xs ys : List X) → x ∷ xs ≡ y ∷ ys → x ≡ y
first_same x y xs ys is = cc

rest_same : {X : Type 0} (x y : X) (xs ys : List X) → x ∷ xs ≡ y ∷ ys → xs ≡ ys
rest_same x y xs ys is = cc

-- an entry stands inside its log
entry_inside : (log : List Entry) (k : ℕ) (entry : Entry) → entry_at log k ≡ Some entry → k ≤ length log
entry_inside log zero entry at = omega arith
entry_inside [] (suc k) entry at = absurd (grind arith)
entry_inside (first ∷ log) (suc zero) entry at = omega arith
entry_inside (first ∷ log) (suc (suc k)) entry at = omega (arith, entry_inside log (suc k) entry at)

module _ (log : List Entry) (caller : ℕ) where
  -- how a call takes its caller on
  pub record Taken (earlier : List LineCall) (line said : List ℕ) (before : Standing) (call : LineCall) : Type 0 where
    pub after : Standing
    pub step : Step log caller line said before after
    pub edition : call.edition ≡ after.edition
    pub made : made_after before.made call.sort ≡ after.made
    pub served : after.served ≡ all_served log (earlier ++ call ∷ [])

  module _ (earlier : List LineCall) (before : Standing) (call : LineCall) (served : before.served ≡ all_served log earlier) where
    -- a call that isn't answered from a message adds none
    none : served_by log call.edition call.line ≡ [] → before.served ≡ all_served log (earlier ++ call ∷ [])
    none is = served ∙ adds_none log caller earlier call is

    taken_look : before.edition ≤ call.edition → (inside : call.edition ≤ length log) → Looks (take call.edition log) earlier call.line call.reply
        → made_after before.made call.sort ≡ before.made → Taken earlier call.line call.reply before call
    taken_look from inside (refuses is) made =
        let here = refuses_same (take call.edition log) log (length (take call.edition log)) call.edition (front_length log call.edition inside)
        (front_again log call.edition inside) call.line call.reply is in
        record {
          after = sees before call.edition;
          step = is_refused call.edition here from inside;
          edition = refl;
          made = made;
          served = none (ap (served_for log call.edition) here.asked);
        }
    taken_look from inside (answers is) made =
        let here = answers_same (take call.edition log) log (length (take call.edition log)) call.edition (front_length log call.edition inside)
        (front_again log call.edition inside) call.line call.reply is in
        record {
          after = gets before call.edition (served_by log call.edition call.line);
          step = is_answered call.edition here from inside;
          edition = refl;
          made = made;
          served = ap (λ l. l ++ with_edition call.edition (served_by log call.edition call.line)) served ∙ adds_some log caller earlier call;
        }
    taken_look from inside (counts is) made =
        let here = counts_same (take call.edition log) log (length (take call.edition log)) call.edition (front_length log call.edition inside)
        (front_again log call.edition inside) call.line call.reply (served_in (take call.edition log) earlier) (in_edition call.edition before.served)
        (sym (ap (in_edition call.edition) served ∙ served_in_front log call.edition inside earlier)) is in
        record {
          after = sees before call.edition;
          step = is_counted call.edition here from inside;
          edition = refl;
          made = made;
          served = none (ap (served_for log call.edition) here.asked);
        }

    taken : call.caller ≡ caller → Fits line_service log caller earlier before.edition before.made call call.sort → Taken earlier call.line call.reply before call
    taken own = by call.sort refl
      where
        by : (sort : Sort) → call.sort ≡ sort → Fits line_service log caller earlier before.edition before.made call sort → Taken earlier call.line call.reply before call
        by (publication change) is fits = record {
          after = makes before call.edition;
          step = is_accepted change call.edition fits.0 fits.1 (entry_inside log call.edition _ fits.2) fits.2;
          edition = refl;
          made = ap (made_after before.made) is;
          served = none (ap (served_for log call.edition) fits.0.asked);
        }
        by look is fits = taken_look fits.1 fits.2 fits.0 (ap (made_after before.made) is)
        by apart is fits = record {
          after = before;
          step = stands_apart fits.0;
          edition = fits.1;
          made = ap (made_after before.made) is;
          served = none (apart_serves log caller call.edition (request_of call.line) call.reply fits.0);
        }

  -- lines and replies that lead to an end
  pub record Ended (lines replies : List (List ℕ)) (before : Standing) : Type 0 where
    pub end : Standing
    pub steps : Steps log caller lines replies before end
    pub within : end.edition ≤ length log
    pub all : end.made ≡ made_by caller log

  -- calls that lead to an end
  Leading : List LineCall → ℕ → ℕ → List LineCall → Type 0
  Leading = Leads line_service (IsEnd line_service log caller) log caller

  ended : (lines replies : List (List ℕ)) (earlier : List LineCall) (before : Standing) (calls : List LineCall) → length lines ≡ length replies
      → map exchange_of calls ≡ answered line_service (exchanges_of lines replies) → Leading earlier before.edition before.made calls
      → before.served ≡ all_served log earlier → Ended lines replies before
  unfolding Leading
  ended [] [] earlier before [] long theirs leads served = record { end = before; steps = refl; within = leads.0; all = leads.1 }
  ended [] [] earlier before (call ∷ calls) long theirs leads served = absurd (no_first (exchange_of call) (map exchange_of calls) theirs)
  ended [] (said ∷ replies) earlier before calls long theirs leads served = absurd (omega (arith, long))
  ended (line ∷ lines) [] earlier before calls long theirs leads served = absurd (omega (arith, long))
  ended (line ∷ lines) (said ∷ replies) earlier before calls long theirs leads served =
      by (bytes_eq said memory_line) refl calls theirs leads
      (λ same more. ended lines replies earlier before calls (omega (arith, long)) more leads served)
      (λ call others after more further on. ended lines replies (earlier ++ call ∷ []) after others (omega (arith, long)) more further on)
    where
      rest : List (Exchange (List ℕ) (List ℕ))
      rest = answered line_service (exchanges_of lines replies)

      on_call : (calls : List LineCall) → map exchange_of calls ≡ record { line = line; reply = said } ∷ rest
          → Leads line_service (IsEnd line_service log caller) log caller earlier before.edition before.made calls
          → ((call : LineCall) (others : List LineCall) (after : Standing) → map exchange_of others ≡ rest
          → Leads line_service (IsEnd line_service log caller) log caller (earlier ++ call ∷ []) after.edition after.made others
          → after.served ≡ all_served log (earlier ++ call ∷ []) → Ended lines replies after)
          → Ended (line ∷ lines) (said ∷ replies) before
      on_call [] theirs leads on = absurd (no_first (record { line = line; reply = said }) rest (sym theirs))
      on_call (call ∷ others) theirs leads on =
          let is : exchange_of call ≡ record { line = line; reply = said } = first_same (exchange_of call) (record { line = line; reply = said }) (map exchange_of others) rest theirs in
          let here = taken earlier before call served leads.0 leads.1 in
          let more = on call others here.after (rest_same (exchange_of call) (record { line = line; reply = said }) (map exchange_of others) rest theirs)
          (subst (λ n. Leads line_service (IsEnd line_service log caller) log caller (earlier ++ call ∷ []) here.after.edition n others) here.made
          (subst (λ n. Leads line_service (IsEnd line_service log caller) log caller (earlier ++ call ∷ []) n (made_after before.made call.sort) others) here.edition leads.2))
          here.served in
          record {
            end = more.end;
            steps = (
              here.after,
              subst₂ (λ l r. Step log caller l r before here.after) (ap (λ (e : Exchange (List ℕ) (List ℕ)). e.line) is) (ap (λ (e : Exchange (List ℕ) (List ℕ)). e.reply) is) here.step,
              more.steps,
            );
            within = more.within;
            all = more.all;
          }

      by : (b : Bool) → bytes_eq said memory_line ≡ b → (calls : List LineCall)
          → map exchange_of calls ≡ cond (not (bytes_eq said memory_line)) (record { line = line; reply = said } ∷ rest) rest
          → Leads line_service (IsEnd line_service log caller) log caller earlier before.edition before.made calls
          → (said ≡ memory_line → map exchange_of calls ≡ rest → Ended lines replies before)
          → ((call : LineCall) (others : List LineCall) (after : Standing) → map exchange_of others ≡ rest
          → Leads line_service (IsEnd line_service log caller) log caller (earlier ++ call ∷ []) after.edition after.made others
          → after.served ≡ all_served log (earlier ++ call ∷ []) → Ended lines replies after)
          → Ended (line ∷ lines) (said ∷ replies) before
      by true is calls theirs leads passed on =
          let memory = (bytes_eq-Decides said memory_line).0 is in
          let more = passed memory (theirs ∙ ap (λ b. cond (not b) (record { line = line; reply = said } ∷ rest) rest) is) in
          record { end = more.end; steps = (before, no_memory memory, more.steps); within = more.within; all = more.all }
      by false is calls theirs leads passed on =
          on_call calls (theirs ∙ ap (λ b. cond (not b) (record { line = line; reply = said } ∷ rest) rest) is) leads on

pub calls_are : (log : List Entry) (caller from : ℕ) (lines replies : List (List ℕ)) → length lines ≡ length replies
    → legal.Transcript line_service caller log from (exchanges_of lines replies) → Transcript caller log from lines replies
unfolding Leading
calls_are log caller from lines replies long transcript =
    let all = ended log caller lines replies [] (stands_at caller log from) transcript.calls long transcript.theirs transcript.steps refl in
    record { end = all.end; steps = all.steps; within = all.within; all = all.all }

pub transcripts_of_calls : TranscriptsAreOfCalls
transcripts_of_calls log caller from lines replies long = (of_calls log caller from lines replies, calls_are log caller from lines replies long)
