-- The transcripts of all callers in a script make one legal history: whoever hasn't joined has no calls.
use Rattle.std.proofs.Common.{◌≡◌, ◌∙◌, ℕ, ◌≤◌, List, [], ◌∷◌, ◌++◌, true, Option, Some, None, refl, ap, sym, arith}
use Rattle.std.specs.Prelude.{map, not, Ok}
use Rattle.std.specs.Option.{is_some}
use Rattle.std.proofs.lemmas.Bool.{ne_eqb, true≢false}
use Rattle.mf_edition.specs.declared.change.Entry.{Entry}
use Rattle.mf_edition.specs.Edition.{EditionsStay}
use Rattle.mf_flight.specs.declared.slot.State.{State}
use Rattle.mf_flight.specs.declared.slot.State.TheVariants as state
use Rattle.mf_legal.specs.Calls.{Exchange, exchange_of}
use Rattle.mf_legal.specs.Histories.{all_forgone, ShowAtMost}
use Rattle.mf_legal.proofs.Histories.{transcripts_are_legal}
use Rattle.mf_core.specs.declared.error.CoreError.{CoreError}
use Rattle.mf_core.specs.declared.event.Event.{Event}
use Rattle.mf_core.specs.declared.event.Event.TheVariants.{Join, Publish, Pin, Ask, Done, Quit, Unpin, Leave}
use Rattle.mf_core.specs.Worlds.{new_world, World}
use Rattle.mf_core.specs.Steps.{asked_row, ask_row, done_row, quit_row, refusal, row}
use Rattle.mf_core.specs.Runs.{after, after_by, answer_by}
use Rattle.mf_core.specs.Valid.{Valid}
use Rattle.mf_core.specs.Scripts.{Answer, core_service, event_calls, IsLocal, Request, script_calls, script_end, script_exchanges, ScriptsAreLegal}
use Rattle.mf_core.proofs.Moments.{refused_leads, scripts_are_transcripts}
use Rattle.mf_core.proofs.Puts.{neither, not_true}
use Rattle.mf_core.proofs.Steps.{allowed, valid_new, valid_step}

-- the next number never falls
next_asked : (w : World) (n e i : ℕ) (s : State (Unit {0})) → (asked_row w n e i s).1.next ≡ w.next
next_asked w n e i state.Idle = refl
next_asked w n e i state.Claimed = refl
next_asked w n e i (state.Ready plan) = refl

next_ask : (w : World) (n i : ℕ) (o : Option ℕ) → (ask_row w n i o).1.next ≡ w.next
next_ask w n i None = refl
next_ask w n i (Some e) = next_asked w n e i (w.slot e i).state

next_done : (w : World) (n : ℕ) (o : Option (ℕ × ℕ)) → (done_row w n o).1.next ≡ w.next
next_done w n None = refl
next_done w n (Some (e, i)) = refl

next_quit : (w : World) (n : ℕ) (o : Option (ℕ × ℕ)) → (quit_row w n o).1.next ≡ w.next
next_quit w n None = refl
next_quit w n (Some (e, i)) = refl

row_next : (w : World) (event : Event) → w.next ≤ (row w event).1.next
row_next w (Join n) = omega arith
row_next w (Publish n change) = omega arith
row_next w (Pin n) = omega arith
row_next w (Ask n i) = omega (arith, next_ask w n i (w.caller n).pinned)
row_next w (Done n) = omega (arith, next_done w n (w.caller n).claim)
row_next w (Quit n) = omega (arith, next_quit w n (w.caller n).claim)
row_next w (Unpin n) = omega arith
row_next w (Leave n) = omega arith

step_next : (w : World) (event : Event) → w.next ≤ (after w event).next
step_next w event = by (refusal w event)
  where
    by : (o : Option CoreError) → w.next ≤ (after_by o w (row w event).1).next
    by None = row_next w event
    by (Some error) = omega arith

-- whoever is joined is no number from the next one on
joined_other : (w : World) → Valid w → (n caller : ℕ) → (w.caller n).joined ≡ true → w.next ≤ caller → n ≡ caller → ⊥
joined_other w v n caller is far same = true≢false (sym is ∙ ap (λ m. (w.caller m).joined) same ∙ v.numbers.later caller far)

module _ {Question Reply : Type 0} (reply : List Entry → ℕ → Question → Reply) (local : IsLocal reply) where
  end_next : (script : List (Event × List Question)) (w : World) → w.next ≤ (script_end reply w script).next
  end_next [] w = omega arith
  end_next (moment ∷ script) w = omega (arith, step_next w moment.0, end_next script (after w moment.0))

  module _ (whole : List Entry) (caller : ℕ) where
    row_none : (w : World) → Valid w → w.next ≤ caller → (event : Event) → refusal w event ≡ None → (questions : List Question)
        → event_calls reply whole caller event (Ok (row w event).0) questions ≡ []
    row_none w v far (Join n) none questions = refl
    row_none w v far (Publish n change) none questions =
        rw (ne_eqb n caller (joined_other w v n caller (not_true (w.caller n).joined (allowed w (Publish n change) none).0) far)) refl
    row_none w v far (Pin n) none questions =
        let a = neither (not (w.caller n).joined) (is_some (w.caller n).claim) (allowed w (Pin n) none).0 in
        rw (ne_eqb n caller (joined_other w v n caller (not_true (w.caller n).joined a.0) far)) refl
    row_none w v far (Ask n i) none questions = refl
    row_none w v far (Done n) none questions = refl
    row_none w v far (Quit n) none questions = refl
    row_none w v far (Unpin n) none questions = refl
    row_none w v far (Leave n) none questions = refl

    moment_none : (w : World) → Valid w → w.next ≤ caller → (event : Event) (questions : List Question) (o : Option CoreError) → refusal w event ≡ o
        → event_calls reply whole caller event (answer_by o (row w event).0) questions ≡ []
    moment_none w v far event questions None none = row_none w v far event none questions
    moment_none w v far event questions (Some error) is = refused_leads reply local whole caller event error questions

    script_none : EditionsStay → (script : List (Event × List Question)) (w : World) → Valid w → (script_end reply w script).next ≤ caller
        → script_calls reply whole caller w script ≡ []
    script_none stay [] w v far = refl
    script_none stay (moment ∷ script) w v far =
        let low : w.next ≤ caller = omega (arith, end_next (moment ∷ script) w, far) in
        let first = moment_none w v low moment.0 moment.1 (refusal w moment.0) refl in
        let rest = script_none stay script (after w moment.0) (valid_step stay w moment.0 v) far in
        (λ i. first i ++ rest i)

  no_quits : (quits : ℕ) (exchanges : List (Exchange (Request Question) (Answer Reply))) → ShowAtMost (core_service reply) quits exchanges
  no_quits quits [] = tt
  no_quits quits (exchange ∷ exchanges) = (tt, no_quits quits exchanges)

  pub scripts_are_legal : EditionsStay → ScriptsAreLegal reply
  scripts_are_legal stay script =
      let end : World = script_end reply new_world script in
      transcripts_are_legal (Request Question) (Answer Reply) (core_service reply) end.log end.next (script_exchanges reply script)
      (scripts_are_transcripts reply local stay script)
      (λ caller far. ap (map exchange_of) (script_none end.log caller stay script new_world valid_new far))
      (λ caller. no_quits (all_forgone (core_service reply) (script_exchanges reply script) end.next) (script_exchanges reply script caller))
