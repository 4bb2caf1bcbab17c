-- The laws of every list of events but for the counts.
use Rattle.std.proofs.Common.{◌≡◌, ◌∙◌, ℕ, ◌+◌, ◌≤◌, ◌<◌, List, [], ◌∷◌, ◌++◌, length, length-append, Bool, true, false, Option, Some, None, ◌⊎◌, inl, inr, ⊎_elim, refl, ap, sym, subst, arith, append_assoc}
use Rattle.std.specs.Prelude.{◌==◌, ◌&&◌, Ok, Err, if◌then◌else◌}
use Rattle.std.specs.List.{AllByRecursion}
use Rattle.std.proofs.lemmas.Bool.{eq-eqb}
use Rattle.std.proofs.lemmas.List.{append-nil}
use Rattle.mf_edition.specs.declared.change.Entry.{Entry}
use Rattle.mf_flight.specs.declared.slot.Slot.{Slot}
use Rattle.mf_flight.specs.declared.slot.State.{State}
use Rattle.mf_flight.specs.declared.slot.State.TheVariants as state
use Rattle.mf_flight.specs.Slots.{claimed, done, fresh, quit}
use Rattle.mf_legal.specs.Calls.{one_if}
use Rattle.mf_core.specs.declared.error.CoreError.{CoreError}
use Rattle.mf_core.specs.declared.event.Event.{Event}
use Rattle.mf_core.specs.declared.event.Event.TheVariants.{Join, Publish, Pin, Ask, Done, Quit, Unpin, Leave}
use Rattle.mf_core.specs.declared.event.Told.TheVariants.{Pinned, Ready}
use Rattle.mf_core.specs.Worlds.{new_world, World, is_live, with_slot}
use Rattle.mf_core.specs.Steps.{asked_row, ask_row, done_row, quit_row, refusal, row}
use Rattle.mf_core.specs.Runs.{after, after_by, answer, answer_by, answers, dones_from, is_done, is_entry, world_after}
use Rattle.mf_core.specs.Laws.{change_accepted, changes_accepted, changes_of, edition_told, EntriesAreAccepted, PinsAreNewest, ReadyWasDone}
use Rattle.mf_core.proofs.Puts.{both_cases, both_here}

-- what a row that leaves the log tells
log_asked : (w : World) (n d i : ℕ) (s : State (Unit {0})) → ((asked_row w n d i s).1.log ≡ w.log) × (edition_told (Ok (asked_row w n d i s).0) ≡ 0)
log_asked w n d i state.Idle = (refl, refl)
log_asked w n d i state.Claimed = (refl, refl)
log_asked w n d i (state.Ready plan) = (refl, refl)

pub log_ask : (w : World) (n i : ℕ) (o : Option ℕ) → ((ask_row w n i o).1.log ≡ w.log) × (edition_told (Ok (ask_row w n i o).0) ≡ 0)
log_ask w n i None = (refl, refl)
log_ask w n i (Some d) = log_asked w n d i (w.slot d i).state

pub log_done : (w : World) (n : ℕ) (o : Option (ℕ × ℕ)) → ((done_row w n o).1.log ≡ w.log) × (edition_told (Ok (done_row w n o).0) ≡ 0)
log_done w n None = (refl, refl)
log_done w n (Some (d, j)) = (refl, refl)

pub log_quit : (w : World) (n : ℕ) (o : Option (ℕ × ℕ)) → ((quit_row w n o).1.log ≡ w.log) × (edition_told (Ok (quit_row w n o).0) ≡ 0)
log_quit w n None = (refl, refl)
log_quit w n (Some (d, j)) = (refl, refl)

-- the log grows, and no more is told than its length
row_told : (w : World) (event : Event) → (length w.log ≤ length (row w event).1.log) × (edition_told (Ok (row w event).0) ≤ length (row w event).1.log)
row_told w (Join n) = (omega arith, omega arith)
row_told w (Publish n change) =
    let long = length-append w.log (record { caller = n; nth = (w.caller n).made + 1; change = change } ∷ []) in (omega arith, omega arith)
row_told w (Pin n) = (omega arith, omega arith)
row_told w (Ask n i) = let t = log_ask w n i (w.caller n).pinned in let a = ap length t.0 in let b = t.1 in (omega arith, omega arith)
row_told w (Done n) = let t = log_done w n (w.caller n).claim in let a = ap length t.0 in let b = t.1 in (omega arith, omega arith)
row_told w (Quit n) = let t = log_quit w n (w.caller n).claim in let a = ap length t.0 in let b = t.1 in (omega arith, omega arith)
row_told w (Unpin n) = (omega arith, omega arith)
row_told w (Leave n) = (omega arith, omega arith)

step_told : (w : World) (event : Event) → (length w.log ≤ length (after w event).log) × (edition_told (answer w event) ≤ length (after w event).log)
step_told w event = by (refusal w event)
  where
    by : (o : Option CoreError) → (length w.log ≤ length (after_by o w (row w event).1).log)
        × (edition_told (answer_by o (row w event).0) ≤ length (after_by o w (row w event).1).log)
    by None = row_told w event
    by (Some error) = (omega arith, omega arith)

run_grows : (events : List Event) (w : World) → length w.log ≤ length (world_after w events).log
run_grows [] w = omega arith
run_grows (event ∷ events) w = let a = (step_told w event).0 in let b = run_grows events (after w event) in omega arith

run_told : (events : List Event) (w : World) → AllByRecursion (λ told. edition_told told ≤ length (world_after w events).log) (answers w events)
run_told [] w = tt
run_told (event ∷ events) w = (let a = (step_told w event).1 in let b = run_grows events (after w event) in omega arith, run_told events (after w event))

pinned_is : (o : Option CoreError) (here k : ℕ) → answer_by o (Pinned here) ≡ Ok (Pinned k) → k ≡ here
pinned_is None here k is = cc
pinned_is (Some error) here k is = absurd (cc)

pub pins_are_newest : PinsAreNewest
pins_are_newest events n k is =
    let w : World = world_after new_world events in
    let same : k ≡ length w.log = pinned_is (refusal w (Pin n)) (length w.log) k is in
    (same, subst (λ m. AllByRecursion (λ told. edition_told told ≤ m) (answers new_world events)) (sym same) (run_told events new_world))

changes-append : (n : ℕ) (log more : List Entry) → changes_of n (log ++ more) ≡ changes_of n log ++ changes_of n more
changes-append n [] more = refl
changes-append n (entry ∷ log) more = by (entry.caller == n) (changes-append n log more)
  where
    by : (b : Bool) → changes_of n (log ++ more) ≡ changes_of n log ++ changes_of n more
        → (if b then entry.change ∷ changes_of n (log ++ more) else changes_of n (log ++ more))
        ≡ (if b then entry.change ∷ changes_of n log else changes_of n log) ++ changes_of n more
    by true further = ap (λ l. entry.change ∷ l) further
    by false further = further

none_more : (n : ℕ) (log more : List Entry) → more ≡ log → changes_of n more ≡ changes_of n log ++ []
none_more n log more same = ap (changes_of n) same ∙ sym (append-nil (changes_of n log))

-- a row adds what is accepted
row_adds : (n : ℕ) (w : World) (event : Event) → changes_of n (row w event).1.log ≡ changes_of n w.log ++ change_accepted n event (Ok (row w event).0)
row_adds n w (Join m) = none_more n w.log w.log refl
row_adds n w (Publish m change) = changes-append n w.log (record { caller = m; nth = (w.caller m).made + 1; change = change } ∷ [])
row_adds n w (Pin m) = none_more n w.log w.log refl
row_adds n w (Ask m i) = none_more n w.log (row w (Ask m i)).1.log (log_ask w m i (w.caller m).pinned).0
row_adds n w (Done m) = none_more n w.log (row w (Done m)).1.log (log_done w m (w.caller m).claim).0
row_adds n w (Quit m) = none_more n w.log (row w (Quit m)).1.log (log_quit w m (w.caller m).claim).0
row_adds n w (Unpin m) = none_more n w.log w.log refl
row_adds n w (Leave m) = none_more n w.log w.log refl

refused_adds : (n : ℕ) (event : Event) (error : CoreError) → change_accepted n event (Err error) ≡ []
refused_adds n (Join m) error = refl
refused_adds n (Publish m change) error = refl
refused_adds n (Pin m) error = refl
refused_adds n (Ask m i) error = refl
refused_adds n (Done m) error = refl
refused_adds n (Quit m) error = refl
refused_adds n (Unpin m) error = refl
refused_adds n (Leave m) error = refl

step_adds : (n : ℕ) (w : World) (event : Event) → changes_of n (after w event).log ≡ changes_of n w.log ++ change_accepted n event (answer w event)
step_adds n w event = by (refusal w event)
  where
    by : (o : Option CoreError) → changes_of n (after_by o w (row w event).1).log
        ≡ changes_of n w.log ++ change_accepted n event (answer_by o (row w event).0)
    by None = row_adds n w event
    by (Some error) = sym (append-nil (changes_of n w.log)) ∙ ap (λ l. changes_of n w.log ++ l) (sym (refused_adds n event error))

run_adds : (events : List Event) (n : ℕ) (w : World) → changes_of n (world_after w events).log ≡ changes_of n w.log ++ changes_accepted n w events
run_adds [] n w = sym (append-nil (changes_of n w.log))
run_adds (event ∷ events) n w =
    run_adds events n (after w event) ∙ ap (λ l. l ++ changes_accepted n (after w event) events) (step_adds n w event)
    ∙ append_assoc (changes_of n w.log) (change_accepted n event (answer w event)) (changes_accepted n (after w event) events)

pub entries_are_accepted : EntriesAreAccepted
entries_are_accepted events n = run_adds events n new_world

-- an entry that is ready after one was put was ready before, or is done now
ready_put : (w x : World) (n d j e i : ℕ) (slot : Slot (Unit {0})) (now : Bool)
    → ((e ≡ d) × (i ≡ j) → (slot.state ≡ state.Ready tt → ⊥) ⊎ (now ≡ true)) → (with_slot w d j slot).slot e i ≡ x.slot e i
    → (x.slot e i).state ≡ state.Ready tt → ((w.slot e i).state ≡ state.Ready tt) ⊎ (now ≡ true)
ready_put w x n d j e i slot now own same is = ⊎_elim
    (λ (h : (e ≡ d) × (i ≡ j)). ⊎_elim
    (λ (not_ready : slot.state ≡ state.Ready tt → ⊥). absurd (not_ready (sym (ap (λ (s : Slot (Unit {0})). s.state) (both_here w.slot d j slot e i h.0 h.1))
    ∙ ap (λ (s : Slot (Unit {0})). s.state) same ∙ is)))
    (λ now. inr now) (own h))
    (λ (k : (with_slot w d j slot).slot e i ≡ w.slot e i). inl (sym (ap (λ (s : Slot (Unit {0})). s.state) k) ∙ ap (λ (s : Slot (Unit {0})). s.state) same ∙ is))
    (both_cases w.slot d j slot e i)

abbrev idle : State (Unit {0})
idle = state.Idle

abbrev claimed_state : State (Unit {0})
claimed_state = state.Claimed

abbrev ready : State (Unit {0})
ready = state.Ready tt

idle_not_ready : idle ≡ ready → ⊥
idle_not_ready is = cc

claimed_not_ready : claimed_state ≡ ready → ⊥
claimed_not_ready is = cc

entry_is : (e i : ℕ) (place : ℕ × ℕ) → e ≡ place.0 → i ≡ place.1 → is_entry e i (Some place) ≡ true
entry_is e i place same_e same_i = λ k. eq-eqb place.0 e (sym same_e) k && eq-eqb place.1 i (sym same_i) k

done_ready : (w : World) (n e i : ℕ) (o : Option (ℕ × ℕ)) → ((done_row w n o).1.slot e i).state ≡ ready
    → ((w.slot e i).state ≡ ready) ⊎ (is_entry e i o ≡ true)
done_ready w n e i None is = inl is
done_ready w n e i (Some (d, j)) is =
    ready_put w (done_row w n (Some (d, j))).1 n d j e i (done (w.slot d j) tt) (is_entry e i (Some (d, j)))
    (λ h. inr (entry_is e i (d, j) h.0 h.1)) refl is

quit_ready : (w : World) (n e i : ℕ) (o : Option (ℕ × ℕ)) → ((quit_row w n o).1.slot e i).state ≡ ready
    → ((w.slot e i).state ≡ ready) ⊎ (false ≡ true)
quit_ready w n e i None is = inl is
quit_ready w n e i (Some (d, j)) is =
    ready_put w (quit_row w n (Some (d, j))).1 n d j e i (quit (w.slot d j)) false (λ h. inl idle_not_ready) refl is

asked_ready : (w : World) (n d j e i : ℕ) (s : State (Unit {0})) → ((asked_row w n d j s).1.slot e i).state ≡ ready
    → ((w.slot e i).state ≡ ready) ⊎ (false ≡ true)
asked_ready w n d j e i state.Idle is =
    ready_put w (asked_row w n d j state.Idle).1 n d j e i (claimed (w.slot d j)) false (λ h. inl claimed_not_ready) refl is
asked_ready w n d j e i state.Claimed is = inl is
asked_ready w n d j e i (state.Ready plan) is = inl is

ask_ready : (w : World) (n j e i : ℕ) (o : Option ℕ) → ((ask_row w n j o).1.slot e i).state ≡ ready
    → ((w.slot e i).state ≡ ready) ⊎ (false ≡ true)
ask_ready w n j e i None is = inl is
ask_ready w n j e i (Some d) is = asked_ready w n d j e i (w.slot d j).state is

row_ready : (w : World) (event : Event) (e i : ℕ) → ((row w event).1.slot e i).state ≡ ready
    → ((w.slot e i).state ≡ ready) ⊎ (is_done w e i event (Ok (row w event).0) ≡ true)
row_ready w (Join n) e i is = inl is
row_ready w (Publish n change) e i is = inl is
row_ready w (Pin n) e i is = inl is
row_ready w (Ask n j) e i is = ask_ready w n j e i (w.caller n).pinned is
row_ready w (Done n) e i is = done_ready w n e i (w.caller n).claim is
row_ready w (Quit n) e i is = quit_ready w n e i (w.caller n).claim is
row_ready w (Unpin n) e i is = inl is
row_ready w (Leave n) e i is = inl is

step_ready : (w : World) (event : Event) (e i : ℕ) → ((after w event).slot e i).state ≡ ready
    → ((w.slot e i).state ≡ ready) ⊎ (is_done w e i event (answer w event) ≡ true)
step_ready w event e i = by (refusal w event)
  where
    left : (b : Bool) → (if b then (row w event).1.slot e i else fresh).state ≡ ready → ((row w event).1.slot e i).state ≡ ready
    left true is = is
    left false is = absurd (idle_not_ready is)

    by : (o : Option CoreError) → ((after_by o w (row w event).1).slot e i).state ≡ ready
        → ((w.slot e i).state ≡ ready) ⊎ (is_done w e i event (answer_by o (row w event).0) ≡ true)
    by None is = row_ready w event e i (left (is_live (row w event).1 e) is)
    by (Some error) is = inl is

-- an entry that is ready after events was ready before, or was done by one of them
run_ready : (events : List Event) (w : World) (e i : ℕ) → ((world_after w events).slot e i).state ≡ ready
    → ((w.slot e i).state ≡ ready) ⊎ (0 < dones_from w e i events)
run_ready [] w e i is = inl is
run_ready (event ∷ events) w e i is = ⊎_elim
    (λ (still : ((after w event).slot e i).state ≡ ready). ⊎_elim (λ was. inl was)
    (λ (now : is_done w e i event (answer w event) ≡ true). let one : one_if (is_done w e i event (answer w event)) ≡ 1 = ap one_if now in inr (omega arith))
    (step_ready w event e i still))
    (λ (more : 0 < dones_from (after w event) e i events). inr (omega arith))
    (run_ready events (after w event) e i is)

told_ready : (w : World) (n d i : ℕ) (s : State (Unit {0})) (o : Option CoreError) → answer_by o (asked_row w n d i s).0 ≡ Ok Ready → s ≡ ready
told_ready w n d i s (Some error) is = absurd (cc)
told_ready w n d i state.Idle None is = absurd (cc)
told_ready w n d i state.Claimed None is = absurd (cc)
told_ready w n d i (state.Ready plan) None is = refl

pub ready_was_done : ReadyWasDone
ready_was_done events n e i pin is =
    let w : World = world_after new_world events in
    let told : answer_by (refusal w (Ask n i)) (asked_row w n e i (w.slot e i).state).0 ≡ Ok Ready =
    ap (λ o. answer_by (refusal w (Ask n i)) (ask_row w n i o).0) (sym pin) ∙ is in
    ⊎_elim (λ (was : idle ≡ ready). absurd (idle_not_ready was)) (λ more. more)
    (run_ready events new_world e i (told_ready w n e i (w.slot e i).state (refusal w (Ask n i)) told))
