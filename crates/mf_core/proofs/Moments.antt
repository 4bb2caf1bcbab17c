-- The questions at a caller's pins, with its accepted publications, are its transcript.
use Rattle.std.proofs.Common.{◌≡◌, ◌∙◌, ℕ, suc, ◌+◌, ◌≤◌, List, [], ◌∷◌, ◌++◌, length, length-append, Bool, true, false, Option, Some, None, refl, ap, sym, subst, arith, append_assoc}
use Rattle.std.specs.Prelude.{◌==◌, map, slice_get, take, Ok, Err, if◌then◌else◌}
use Rattle.std.proofs.lemmas.Bool.{eqb-true, eqb-false}
use Rattle.std.proofs.lemmas.List.{length-take-le}
use Rattle.mf_edition.specs.declared.change.Change.{Change}
use Rattle.mf_edition.specs.declared.change.Entry.{Entry}
use Rattle.mf_edition.specs.Edition.{EditionsStay}
use Rattle.mf_legal.specs.Calls.{entry_at, made_by, publication, Call, Exchange}
use Rattle.mf_legal.specs.Transcripts.{answered, IsEnd, Leads}
use Rattle.mf_legal.proofs.Counts.{made-append, made_other, made_own}
use Rattle.mf_legal.proofs.Fronts.{after_front, Longer, longer_both, same_longer}
use Rattle.mf_core.specs.declared.error.CoreError.{CoreError}
use Rattle.mf_core.specs.declared.event.Event.{Event}
use Rattle.mf_core.specs.declared.event.Event.TheVariants.{Join, Publish, Pin, Ask, Done, Quit, Unpin, Leave}
use Rattle.mf_core.specs.Worlds.{new_world, World}
use Rattle.mf_core.specs.Steps.{refusal, row}
use Rattle.mf_core.specs.Runs.{after, after_by, answer_by}
use Rattle.mf_core.specs.Valid.{Valid}
use Rattle.mf_core.specs.Scripts.{accepts, Answer, core_service, event_calls, IsLocal, publishes, question_call, Request, script_calls, script_end, script_exchanges, ScriptsAreTranscripts}
use Rattle.mf_core.proofs.Answered.{log_ask, log_done, log_quit}
use Rattle.mf_core.proofs.Puts.{not_true}
use Rattle.mf_core.proofs.Steps.{allowed, valid_new, valid_step}

row_longer : (w : World) (event : Event) → Longer w.log (row w event).1.log
row_longer w (Join n) = same_longer w.log w.log refl
row_longer w (Publish n change) = record { rest = record { caller = n; nth = (w.caller n).made + 1; change = change } ∷ []; split = refl }
row_longer w (Pin n) = same_longer w.log w.log refl
row_longer w (Ask n i) = same_longer w.log (row w (Ask n i)).1.log (log_ask w n i (w.caller n).pinned).0
row_longer w (Done n) = same_longer w.log (row w (Done n)).1.log (log_done w n (w.caller n).claim).0
row_longer w (Quit n) = same_longer w.log (row w (Quit n)).1.log (log_quit w n (w.caller n).claim).0
row_longer w (Unpin n) = same_longer w.log w.log refl
row_longer w (Leave n) = same_longer w.log w.log refl

step_longer : (w : World) (event : Event) → Longer w.log (after w event).log
step_longer w event = by (refusal w event)
  where
    by : (o : Option CoreError) → Longer w.log (after_by o w (row w event).1).log
    by None = row_longer w event
    by (Some error) = same_longer w.log w.log refl

module _ {Question Reply : Type 0} (reply : List Entry → ℕ → Question → Reply) (local : IsLocal reply) where
  log_longer : (script : List (Event × List Question)) (w : World) → Longer w.log (script_end reply w script).log
  log_longer [] w = same_longer w.log w.log refl
  log_longer (moment ∷ script) w =
      longer_both w.log (after w moment.0).log (script_end reply w (moment ∷ script)).log (step_longer w moment.0) (log_longer script (after w moment.0))

  module _ (whole : List Entry) (caller : ℕ) where
    abbrev Calls : Type 0
    Calls = List (Call (Request Question) (Answer Reply))

    abbrev CoreLeads : Calls → ℕ → ℕ → Calls → Type 0
    CoreLeads = Leads (core_service reply) (IsEnd (core_service reply) whole caller) whole caller

    -- what comes after calls leads to the end, whatever the calls before were, and whatever edition was seen up to one
    abbrev GoesOn : ℕ → ℕ → Calls → Type 0
    GoesOn most made rest = (earlier : Calls) (seen : ℕ) → seen ≤ most → CoreLeads earlier seen made rest

    -- questions at one number
    questions_lead : (k made : ℕ) → k ≤ length whole → (questions : List Question) (rest : Calls) → GoesOn k made rest
        → GoesOn k made (map (question_call reply whole caller k) questions ++ rest)
    questions_lead k made low [] rest further earlier seen less = further earlier seen less
    questions_lead k made low (question ∷ questions) rest further earlier seen less = (
      refl,
      (local whole k question low ∙ ap (λ n. reply (take k whole) n question) (sym (length-take-le k whole low)), less, low),
      questions_lead k made low questions rest further (earlier ++ question_call reply whole caller k question ∷ []) k (omega arith),
    )

    -- an event that leaves the log, and is no call
    quiet : (w : World) (log : List Entry) → log ≡ w.log → (rest : Calls) → GoesOn (length log) (made_by caller log) rest
        → GoesOn (length w.log) (made_by caller w.log) rest
    quiet w log same rest further = subst (λ (l : List Entry). GoesOn (length l) (made_by caller l) rest) same further

    pin_leads : (w : World) (n : ℕ) (questions : List Question) (rest : Calls) → length w.log ≤ length whole
        → GoesOn (length w.log) (made_by caller w.log) rest → (b : Bool)
        → GoesOn (length w.log) (made_by caller w.log) ((if b then map (question_call reply whole caller (length w.log)) questions else []) ++ rest)
    pin_leads w n questions rest low further true = questions_lead (length w.log) (made_by caller w.log) low questions rest further
    pin_leads w n questions rest low further false = further

    publish_leads : (w : World) → Valid w → (n : ℕ) (change : Change) → (w.caller n).joined ≡ true → (rest : Calls)
        → Longer (row w (Publish n change)).1.log whole
        → GoesOn (length (row w (Publish n change)).1.log) (made_by caller (row w (Publish n change)).1.log) rest
        → (b : Bool) → (n == caller) ≡ b
        → GoesOn (length w.log) (made_by caller w.log)
        ((if b then record { caller = caller; line = publishes change; reply = accepts (length w.log + 1); sort = publication change; edition = length w.log + 1 } ∷ [] else []) ++ rest)
    publish_leads w v n change is rest longer further false other earlier seen less =
        let entry : Entry = record { caller = n; nth = (w.caller n).made + 1; change = change } in
        let long = length-append w.log (entry ∷ []) in
        let same : made_by caller (w.log ++ entry ∷ []) ≡ made_by caller w.log =
        omega (arith, made-append caller w.log (entry ∷ []), made_other caller entry (eqb-false n caller other)) in
        subst (λ m. CoreLeads earlier seen m rest) same (further earlier seen (omega arith))
    publish_leads w v n change is rest longer further true own earlier seen less =
        let entry : Entry = record { caller = n; nth = (w.caller n).made + 1; change = change } in
        let theirs : n ≡ caller = eqb-true n caller own in
        let long = length-append w.log (entry ∷ []) in
        let count : (w.caller n).made ≡ made_by caller w.log = v.numbers.made_count n is ∙ ap (λ k. made_by k w.log) theirs in
        let more : made_by caller (w.log ++ entry ∷ []) ≡ made_by caller w.log + 1 =
        omega (arith, made-append caller w.log (entry ∷ []), made_own caller entry theirs) in
        let split : whole ≡ w.log ++ entry ∷ longer.rest = longer.split ∙ append_assoc w.log (entry ∷ []) longer.rest in
        let here : slice_get whole (length w.log) ≡ Some entry =
        ap (λ (l : List Entry). slice_get l (length w.log)) split ∙ after_front w.log longer.rest entry in
        let named : entry ≡ record { caller = caller; nth = made_by caller w.log + 1; change = change } =
        (λ k. record { caller = theirs k; nth = count k + 1; change = change }) in
        let next : suc (length w.log) ≡ length w.log + 1 = omega arith in (
          refl,
          ((refl, refl), omega arith, subst (λ k. entry_at whole k ≡ Some (record { caller = caller; nth = made_by caller w.log + 1; change = change })) next (here ∙ ap Some named)),
          subst (λ m. CoreLeads (earlier ++ record { caller = caller; line = publishes change; reply = accepts (length w.log + 1); sort = publication change; edition = length w.log + 1 } ∷ []) (length w.log + 1) m rest) more
              (further _ (length w.log + 1) (omega arith)),
        )

    row_leads : (w : World) → Valid w → (event : Event) → refusal w event ≡ None → (questions : List Question) (rest : Calls)
        → Longer (row w event).1.log whole → GoesOn (length (row w event).1.log) (made_by caller (row w event).1.log) rest
        → GoesOn (length w.log) (made_by caller w.log) (event_calls reply whole caller event (Ok (row w event).0) questions ++ rest)
    row_leads w v (Join n) none questions rest longer further = further
    row_leads w v (Publish n change) none questions rest longer further =
        publish_leads w v n change (not_true (w.caller n).joined (allowed w (Publish n change) none).0) rest longer further (n == caller) refl
    row_leads w v (Pin n) none questions rest longer further =
        let long = ap length longer.split in let a = length-append w.log longer.rest in
        pin_leads w n questions rest (omega arith) further (n == caller)
    row_leads w v (Ask n i) none questions rest longer further = quiet w (row w (Ask n i)).1.log (log_ask w n i (w.caller n).pinned).0 rest further
    row_leads w v (Done n) none questions rest longer further = quiet w (row w (Done n)).1.log (log_done w n (w.caller n).claim).0 rest further
    row_leads w v (Quit n) none questions rest longer further = quiet w (row w (Quit n)).1.log (log_quit w n (w.caller n).claim).0 rest further
    row_leads w v (Unpin n) none questions rest longer further = further
    row_leads w v (Leave n) none questions rest longer further = further

    pub refused_leads : (event : Event) (error : CoreError) (questions : List Question) → event_calls reply whole caller event (Err error) questions ≡ []
    refused_leads (Join n) error questions = refl
    refused_leads (Publish n change) error questions = refl
    refused_leads (Pin n) error questions = refl
    refused_leads (Ask n i) error questions = refl
    refused_leads (Done n) error questions = refl
    refused_leads (Quit n) error questions = refl
    refused_leads (Unpin n) error questions = refl
    refused_leads (Leave n) error questions = refl

    moment_leads : (w : World) → Valid w → (event : Event) (questions : List Question) (rest : Calls) (o : Option CoreError) → refusal w event ≡ o
        → Longer (after_by o w (row w event).1).log whole
        → GoesOn (length (after_by o w (row w event).1).log) (made_by caller (after_by o w (row w event).1).log) rest
        → GoesOn (length w.log) (made_by caller w.log) (event_calls reply whole caller event (answer_by o (row w event).0) questions ++ rest)
    moment_leads w v event questions rest None none longer further = row_leads w v event none questions rest longer further
    moment_leads w v event questions rest (Some error) is longer further =
        subst (λ (l : Calls). GoesOn (length w.log) (made_by caller w.log) (l ++ rest)) (sym (refused_leads event error questions)) further

  script_leads : EditionsStay → (caller : ℕ) (script : List (Event × List Question)) (w : World) → Valid w
      → GoesOn (script_end reply w script).log caller (length w.log) (made_by caller w.log) (script_calls reply (script_end reply w script).log caller w script)
  script_leads stay caller [] w v = λ earlier seen less. (less, refl)
  script_leads stay caller (moment ∷ script) w v =
      moment_leads (script_end reply w (moment ∷ script)).log caller w v moment.0 moment.1
      (script_calls reply (script_end reply w (moment ∷ script)).log caller (after w moment.0) script) (refusal w moment.0) refl
      (log_longer script (after w moment.0)) (script_leads stay caller script (after w moment.0) (valid_step stay w moment.0 v))

  all_answered : (exchanges : List (Exchange (Request Question) (Answer Reply))) → answered (core_service reply) exchanges ≡ exchanges
  all_answered [] = refl
  all_answered (exchange ∷ exchanges) = ap (λ l. exchange ∷ l) (all_answered exchanges)

  pub scripts_are_transcripts : EditionsStay → ScriptsAreTranscripts reply
  scripts_are_transcripts stay script caller = record {
    calls = script_calls reply (script_end reply new_world script).log caller new_world script;
    theirs = sym (all_answered (script_exchanges reply script caller));
    steps = script_leads stay caller script new_world valid_new [] 0 (omega arith);
  }
