-- A transcript of lines and replies is one of calls.
use Rattle.std.proofs.Common.{◌≡◌, ◌≢◌, ◌∙◌, ℕ, ◌≤◌, Bool, true, false, not, List, [], ◌∷◌, ◌++◌, length, map, take, Result, Ok, Err, cond, refl, ap, sym, subst}
use Rattle.std.specs.Str.{bytes_eq}
use Rattle.std.proofs.lemmas.Bool.{true≢false}
use Rattle.std.proofs.lemmas.List.{append-nil}
use Rattle.std.proofs.lemmas.Slice.Eq.{bytes_eq-Decides}
use Rattle.mf_edition.specs.declared.change.Entry.{Entry}
use Rattle.mf_legal.specs.Calls.{made_by, Call, Sort, publication, look, apart, exchange_of}
use Rattle.mf_legal.specs.Transcripts.{answered, made_after, Fits, IsEnd, Leads}
use Rattle.mf_legal.specs.Transcripts as legal
use Rattle.mf_wire.specs.Replies.{memory_line}
use Rattle.mf_wire.specs.declared.reply.Reply.{Reply}
use Rattle.mf_wire.specs.declared.request.Request.{Request}
use Rattle.mf_wire.specs.declared.request.Request.TheVariants.{Format, Lint, Publish, Stat}
use Rattle.mf_transcript.specs.Asked.{request_of}
use Rattle.mf_transcript.specs.Lines.{answers, counts, exchanges_of, line_service, refuses, served_in}
use Rattle.mf_transcript.specs.Served.{in_edition, served_by, served_for, with_edition}
use Rattle.mf_transcript.specs.Steps.{no_memory, stands_apart, is_accepted, is_refused, is_answered, is_counted, ApartFor, Standing, Step}
use Rattle.mf_transcript.specs.Transcripts.{stands_at, Steps, Transcript}
use Rattle.mf_transcript.proofs.Fixed.{stays}
use Rattle.mf_transcript.proofs.Fronts.{all_served, all_served-append, answers_same, counts_same, front_again, front_length, refuses_same, served_in_front}

-- calls of lines and replies
abbrev pub LineCall : Type 0
LineCall = Call (List ℕ) (List ℕ)

module _ (log : List Entry) (caller : ℕ) where
  -- the call that a line and its reply are, where they take a caller on
  pub record Called (earlier : List LineCall) (line said : List ℕ) (before after : Standing) : Type 0 where
    pub call : LineCall
    pub own : call.caller ≡ caller
    pub is : exchange_of call ≡ record { line = line; reply = said }
    pub fits : Fits line_service log caller earlier before.edition before.made call call.sort
    pub edition : call.edition ≡ after.edition
    pub made : made_after before.made call.sort ≡ after.made
    pub served : after.served ≡ all_served log (earlier ++ call ∷ [])

  -- what a call that isn't answered from a message adds
  pub adds_none : (earlier : List LineCall) (call : LineCall) → served_by log call.edition call.line ≡ [] → all_served log earlier ≡ all_served log (earlier ++ call ∷ [])
  adds_none earlier call none =
      sym (all_served-append log earlier (call ∷ [])
      ∙ ap (λ l. all_served log earlier ++ (with_edition call.edition l ++ [])) none
      ∙ append-nil (all_served log earlier))

  pub adds_some : (earlier : List LineCall) (call : LineCall)
      → all_served log earlier ++ with_edition call.edition (served_by log call.edition call.line) ≡ all_served log (earlier ++ call ∷ [])
  adds_some earlier call =
      let more = with_edition call.edition (served_by log call.edition call.line) in
      sym (all_served-append log earlier (call ∷ []) ∙ ap (λ l. all_served log earlier ++ l) (append-nil more))

  pub apart_serves : (k : ℕ) (asked : Result Request Reply) (said : List ℕ) → ApartFor asked said → served_for log k asked ≡ []
  apart_serves k (Ok (Publish change)) said is = absurd is
  apart_serves k (Ok (Format tag id arguments since)) said is = absurd is
  apart_serves k (Ok Stat) said is = absurd is
  apart_serves k (Ok (Lint source)) said is = refl
  apart_serves k (Err refusal) said is = refl

  call_of : List ℕ → List ℕ → Sort → ℕ → LineCall
  call_of line said sort k = record { caller = caller; line = line; reply = said; sort = sort; edition = k }

  pub called : (earlier : List LineCall) (line said : List ℕ) (before after : Standing) → Step log caller line said before after
      → said ≢ memory_line → before.served ≡ all_served log earlier → Called earlier line said before after
  unfolding call_of
  called earlier line said before after (no_memory is) differs served = absurd (differs is)
  called earlier line said before after (stands_apart is) differs served = record {
    call = call_of line said apart before.edition;
    own = refl;
    is = refl;
    fits = (is, refl);
    edition = refl;
    made = refl;
    served = served ∙ adds_none earlier (call_of line said apart before.edition) (apart_serves before.edition (request_of line) said is);
  }
  called earlier line said before after (is_accepted change k is above inside entry) differs served = record {
    call = call_of line said (publication change) k;
    own = refl;
    is = refl;
    fits = (is, above, entry);
    edition = refl;
    made = refl;
    served = served ∙ adds_none earlier (call_of line said (publication change) k) (ap (served_for log k) is.asked);
  }
  called earlier line said before after (is_refused k is from inside) differs served = record {
    call = call_of line said look k;
    own = refl;
    is = refl;
    edition = refl;
    made = refl;
    fits = (refuses (refuses_same log (take k log) k (length (take k log)) (sym (front_length log k inside)) (sym (front_again log k inside)) line said is), from, inside);
    served = served ∙ adds_none earlier (call_of line said look k) (ap (served_for log k) is.asked);
  }
  called earlier line said before after (is_answered k is from inside) differs served = record {
    call = call_of line said look k;
    own = refl;
    is = refl;
    edition = refl;
    made = refl;
    fits = (answers (answers_same log (take k log) k (length (take k log)) (sym (front_length log k inside)) (sym (front_again log k inside)) line said is), from, inside);
    served = ap (λ l. l ++ with_edition k (served_by log k line)) served ∙ adds_some earlier (call_of line said look k);
  }
  called earlier line said before after (is_counted k is from inside) differs served = record {
    call = call_of line said look k;
    own = refl;
    is = refl;
    edition = refl;
    made = refl;
    fits = (
      counts (counts_same log (take k log) k (length (take k log)) (sym (front_length log k inside)) (sym (front_again log k inside)) line said (in_edition k before.served) (served_in (take k log) earlier)
          (ap (in_edition k) served ∙ served_in_front log k inside earlier) is),
      from,
      inside,
    );
    served = served ∙ adds_none earlier (call_of line said look k) (ap (served_for log k) is.asked);
  }

  module _ (end : Standing) (within : end.edition ≤ length log) (all : end.made ≡ made_by caller log) where
    -- the calls that lines and replies are
    pub record AreCalls (earlier : List LineCall) (lines replies : List (List ℕ)) (before : Standing) : Type 0 where
      pub calls : List LineCall
      pub theirs : map exchange_of calls ≡ answered line_service (exchanges_of lines replies)
      pub leads : Leads line_service (IsEnd line_service log caller) log caller earlier before.edition before.made calls

    are_calls : (lines replies : List (List ℕ)) (earlier : List LineCall) (before : Standing) → Steps log caller lines replies before end
        → before.served ≡ all_served log earlier → AreCalls earlier lines replies before
    are_calls [] [] earlier before steps served = record {
      calls = [];
      theirs = refl;
      leads = subst (λ (s : Standing). (s.edition ≤ length log) × (s.made ≡ made_by caller log)) steps (within, all);
    }
    are_calls [] (said ∷ replies) earlier before steps served = absurd steps
    are_calls (line ∷ lines) [] earlier before steps served = absurd steps
    are_calls (line ∷ lines) (said ∷ replies) earlier before steps served =
        by (bytes_eq said memory_line) refl
        (λ same. are_calls lines replies earlier steps.0 steps.2 (ap (λ (s : Standing). s.served) same ∙ served))
        (λ call more. are_calls lines replies (earlier ++ call ∷ []) steps.0 steps.2 more)
      where
        by : (b : Bool) → bytes_eq said memory_line ≡ b
            → (steps.0 ≡ before → AreCalls earlier lines replies steps.0)
            → ((call : LineCall) → steps.0.served ≡ all_served log (earlier ++ call ∷ []) → AreCalls (earlier ++ call ∷ []) lines replies steps.0)
            → AreCalls earlier (line ∷ lines) (said ∷ replies) before
        by true is passed on =
            let same = sym (stays log caller line said before steps.0 ((bytes_eq-Decides said memory_line).0 is) steps.1) in
            let rest = passed same in record {
              calls = rest.calls;
              theirs = rest.theirs ∙ sym (ap (λ b. cond (not b) (record { line = line; reply = said } ∷ answered line_service (exchanges_of lines replies)) (answered line_service (exchanges_of lines replies))) is);
              leads = subst (λ (s : Standing). Leads line_service (IsEnd line_service log caller) log caller earlier s.edition s.made rest.calls) same rest.leads;
            }
        by false is passed on =
            let here = called earlier line said before steps.0 steps.1 (λ memory. true≢false (sym ((bytes_eq-Decides said memory_line).1 memory) ∙ is)) served in
            let rest = on here.call here.served in record {
              calls = here.call ∷ rest.calls;
              theirs = (λ i. here.is i ∷ rest.theirs i)
                  ∙ sym (ap (λ b. cond (not b) (record { line = line; reply = said } ∷ answered line_service (exchanges_of lines replies)) (answered line_service (exchanges_of lines replies))) is);
              leads = (
                here.own,
                here.fits,
                subst (λ n. Leads line_service (IsEnd line_service log caller) log caller (earlier ++ here.call ∷ []) n (made_after before.made here.call.sort) rest.calls) (sym here.edition)
                    (subst (λ n. Leads line_service (IsEnd line_service log caller) log caller (earlier ++ here.call ∷ []) steps.0.edition n rest.calls) (sym here.made) rest.leads),
              );
            }

pub of_calls : (log : List Entry) (caller from : ℕ) (lines replies : List (List ℕ)) → Transcript caller log from lines replies
    → legal.Transcript line_service caller log from (exchanges_of lines replies)
of_calls log caller from lines replies transcript =
    let are = are_calls log caller transcript.end transcript.within transcript.all lines replies [] (stands_at caller log from) transcript.steps refl in
    record { calls = are.calls; theirs = are.theirs; steps = are.leads }
