-- The Worlds that events leave, from what each changes.
use Rattle.std.proofs.Common.{◌≡◌, ◌∙◌, ℕ, suc, ◌+◌, ◌<◌, List, length, true, false, Option, Some, None, ⊎_elim, refl, ap, sym, subst, arith}
use Rattle.std.specs.Prelude.{◌==◌, ◌&&◌, ◌||◌, nat_lt, if◌then◌else◌}
use Rattle.std.proofs.lemmas.Bool.{true≢false}
use Rattle.mf_flight.specs.Sums.{sum_below}
use Rattle.mf_flight.proofs.Sums.{same_below}
use Rattle.mf_flight.specs.declared.slot.Slot.{Slot}
use Rattle.mf_flight.specs.declared.slot.State.{State}
use Rattle.mf_flight.specs.declared.slot.State.TheVariants as state
use Rattle.mf_flight.specs.Slots.{claimed, done, quit}
use Rattle.mf_legal.specs.Calls.{one_if}
use Rattle.mf_core.specs.declared.caller.CallerState.{CallerState}
use Rattle.mf_core.specs.declared.event.Event.TheVariants.{Join, Ask, Done, Quit, Leave}
use Rattle.mf_core.specs.declared.event.Told.TheVariants.{Ended}
use Rattle.mf_core.specs.declared.caller.CallerState.{CallerState}
use Rattle.mf_core.specs.Worlds.{away, World, is_at, is_live, pins, swept, with_caller, with_slot}
use Rattle.mf_core.specs.Steps.{asked_row, ask_row, done_row, quit_row, row}
use Rattle.mf_core.specs.Valid.{Valid}
use Rattle.mf_core.specs.Kept.{state_at, PutsState}
use Rattle.mf_core.proofs.Puts.{both_cases, here, there}
use Rattle.mf_core.proofs.Pins.{live_pin, pins_moved}
use Rattle.mf_core.proofs.Rows.{joined_below, sound}
use Rattle.mf_core.proofs.Afterwards.{none_swept, same_world}

-- what is put into a list that is another's
pub puts_into : (f : CallerState → CallerState) (old other new : List CallerState) (n : ℕ) → other ≡ old
    → PutsState other new n (f (state_at other n)) → PutsState old new n (f (state_at old n))
puts_into f old other new n is puts = subst (λ (s : List CallerState). PutsState s new n (f (state_at s n))) is puts

-- an event with a joined caller has one with a seat
pub has_seat : (w : World) → Valid w → (n : ℕ) → (w.caller n).joined ≡ true → n < w.next
has_seat w v n is = joined_below w (sound w v) n is

module _ (w : World) (n : ℕ) (new : CallerState) (less : n < w.next) (same : new.pinned ≡ (w.caller n).pinned) where
  -- a caller's new state with the same pin leaves the pins, and so the live editions
  pub pins_same : (e : ℕ) → pins (with_caller w n new) e ≡ pins w e
  pins_same e = let a = pins_moved w n new e less in let b = ap (λ o. one_if (is_at e o)) same in omega arith

  pub live_same : (e : ℕ) → is_live (with_caller w n new) e ≡ is_live w e
  live_same e = ap (λ k. (e == length w.log) || nat_lt 0 k) (pins_same e)

-- no entry goes where a caller's own entry changes
pub entry_stays : (w : World) → Valid w → (n e i : ℕ) (new : CallerState) (slot : Slot (Unit {0})) → n < w.next
    → new.pinned ≡ (w.caller n).pinned → (w.caller n).pinned ≡ Some e
    → (d j : ℕ) → (with_slot w e i slot).slot d j ≡ (swept (with_slot (with_caller w n new) e i slot)).slot d j
entry_stays w v n e i new slot less same pin =
    none_swept (with_slot (with_caller w n new) e i slot) (λ d j dead.
    let gone : is_live w d ≡ false = sym (live_same w n new less same d) ∙ dead in ⊎_elim
    (λ (h : (d ≡ e) × (j ≡ i)). absurd (true≢false (sym (live_pin w n e less pin) ∙ ap (is_live w) (sym h.0) ∙ gone)))
    (λ (k : (with_slot w e i slot).slot d j ≡ w.slot d j). k ∙ v.live d j gone) (both_cases w.slot e i slot d j))

-- what one caller's event leaves, where its own entry changes
entry_world : (w v : World) → Valid w → (n e i : ℕ) (new : CallerState) (slot : Slot (Unit {0})) → n < w.next
    → new.pinned ≡ (w.caller n).pinned → (w.caller n).pinned ≡ Some e → v.log ≡ w.log → v.next ≡ w.next
    → ((m : ℕ) → v.caller m ≡ (if m == n then new else w.caller m))
    → ((d j : ℕ) → v.slot d j ≡ (if (d == e) && (j == i) then slot else w.slot d j))
    → v ≡ swept (with_slot (with_caller w n new) e i slot)
entry_world w v valid n e i new slot less same pin log next caller slots =
    same_world v (swept (with_slot (with_caller w n new) e i slot)) log next caller
    (λ d j. slots d j ∙ entry_stays w valid n e i new slot less same pin d j)

pub done_world : (w v : World) → Valid w → (n : ℕ) (t : ℕ × ℕ) → n < w.next → (w.caller n).claim ≡ Some t → v.log ≡ w.log → v.next ≡ w.next
    → ((m : ℕ) → v.caller m ≡ (if m == n then record (w.caller n) { claim = None } else w.caller m))
    → ((d j : ℕ) → v.slot d j ≡ (if (d == t.0) && (j == t.1) then done (w.slot t.0 t.1) tt else w.slot d j))
    → v ≡ swept (row w (Done n)).1
done_world w v valid n t less own log next caller slots =
    entry_world w v valid n t.0 t.1 (record (w.caller n) { claim = None }) (done (w.slot t.0 t.1) tt) less refl
    (valid.claims.entry n t.0 t.1 own).0 log next caller slots
    ∙ ap (λ o. swept (done_row w n o).1) (sym own)

pub quit_world : (w v : World) → Valid w → (n : ℕ) (t : ℕ × ℕ) → n < w.next → (w.caller n).claim ≡ Some t → v.log ≡ w.log → v.next ≡ w.next
    → ((m : ℕ) → v.caller m ≡ (if m == n then record (w.caller n) { claim = None } else w.caller m))
    → ((d j : ℕ) → v.slot d j ≡ (if (d == t.0) && (j == t.1) then quit (w.slot t.0 t.1) else w.slot d j))
    → v ≡ swept (row w (Quit n)).1
quit_world w v valid n t less own log next caller slots =
    entry_world w v valid n t.0 t.1 (record (w.caller n) { claim = None }) (quit (w.slot t.0 t.1)) less refl
    (valid.claims.entry n t.0 t.1 own).0 log next caller slots
    ∙ ap (λ o. swept (quit_row w n o).1) (sym own)

pub ask_world : (w v : World) → Valid w → (n e i : ℕ) → n < w.next → (w.caller n).pinned ≡ Some e → (w.slot e i).state ≡ state.Idle
    → v.log ≡ w.log → v.next ≡ w.next
    → ((m : ℕ) → v.caller m ≡ (if m == n then record (w.caller n) { claim = Some (e, i) } else w.caller m))
    → ((d j : ℕ) → v.slot d j ≡ (if (d == e) && (j == i) then claimed (w.slot e i) else w.slot d j))
    → v ≡ swept (row w (Ask n i)).1
ask_world w v valid n e i less pin idle log next caller slots =
    entry_world w v valid n e i (record (w.caller n) { claim = Some (e, i) }) (claimed (w.slot e i)) less refl pin log next caller slots
    ∙ ap (λ s. swept (asked_row w n e i s).1) (sym idle) ∙ ap (λ o. swept (ask_row w n i o).1) (sym pin)

-- what stays as it was is left as it was
pub nothing_world : (w v : World) → Valid w → v ≡ w → v ≡ swept w
nothing_world w v valid same = same ∙ same_world w (swept w) refl refl (λ n. refl) (none_swept w valid.live)

pub leave_world : (w v : World) → Valid w → (n : ℕ) → n < w.next → (w.caller n).pinned ≡ None → v.log ≡ w.log → v.next ≡ w.next
    → ((m : ℕ) → v.caller m ≡ (if m == n then away else w.caller m)) → ((d j : ℕ) → v.slot d j ≡ w.slot d j)
    → v ≡ swept (row w (Leave n)).1
leave_world w v valid n less none log next caller slots =
    same_world v (swept (with_caller w n away)) log next caller
    (λ d j. slots d j ∙ none_swept (with_caller w n away) (λ e i dead. valid.live e i (sym (live_same w n away less (sym none) e) ∙ dead)) d j)

-- the pins after one caller more has joined
pub pins_joined : (w : World) (n : ℕ) (new : CallerState) (e : ℕ) → n ≡ w.next → new.pinned ≡ None
    → pins (with_caller (record w { next = w.next + 1 }) n new) e ≡ pins w e
pins_joined w n new e is none =
    let f : ℕ → ℕ = λ m. one_if (is_at e (w.caller m).pinned) in
    let g : ℕ → ℕ = λ m. one_if (is_at e ((with_caller w n new).caller m).pinned) in
    let same = same_below f g w.next (λ i less. ap (λ (c : CallerState). one_if (is_at e c.pinned)) (there w.caller n new i (λ k. omega arith))) in
    let last : g w.next ≡ 0 = ap (λ (c : CallerState). one_if (is_at e c.pinned)) (here w.caller n new w.next (sym is)) ∙ ap (λ o. one_if (is_at e o)) none in
    let one : w.next + 1 ≡ suc w.next = omega arith in
    ap (sum_below g) one ∙ omega arith

pub join_world : (w v : World) → Valid w → (n : ℕ) → n ≡ w.next → v.log ≡ w.log → v.next ≡ w.next + 1
    → ((m : ℕ) → v.caller m ≡ (if m == n then record away { joined = true; seen = length w.log } else w.caller m))
    → ((d j : ℕ) → v.slot d j ≡ w.slot d j) → v ≡ swept (row w (Join n)).1
join_world w v valid n is log next caller slots =
    let new : CallerState = record away { joined = true; seen = length w.log } in
    let x : World = with_caller (record w { next = w.next + 1 }) n new in
    same_world v (swept x) log next caller
    (λ d j. slots d j ∙ none_swept x (λ e i dead.
    valid.live e i (sym (ap (λ k. (e == length w.log) || nat_lt 0 k) (pins_joined w n new e is refl)) ∙ dead)) d j)

-- the pins after rows that leave them
pub pins_done : (w : World) (n e : ℕ) (o : Option (ℕ × ℕ)) → n < w.next → pins (done_row w n o).1 e ≡ pins w e
pins_done w n e None less = refl
pins_done w n e (Some (d, j)) less = pins_same w n (record (w.caller n) { claim = None }) less refl e

pub pins_quit : (w : World) (n e : ℕ) (o : Option (ℕ × ℕ)) → n < w.next → pins (quit_row w n o).1 e ≡ pins w e
pins_quit w n e None less = refl
pins_quit w n e (Some (d, j)) less = pins_same w n (record (w.caller n) { claim = None }) less refl e

pub pins_asked : (w : World) (n i e d : ℕ) (s : State (Unit {0})) → n < w.next → pins (asked_row w n d i s).1 e ≡ pins w e
pins_asked w n i e d state.Idle less = pins_same w n (record (w.caller n) { claim = Some (d, i) }) less refl e
pins_asked w n i e d state.Claimed less = refl
pins_asked w n i e d (state.Ready plan) less = refl

pub pins_ask : (w : World) (n i e : ℕ) (o : Option ℕ) → n < w.next → pins (ask_row w n i o).1 e ≡ pins w e
pins_ask w n i e None less = refl
pins_ask w n i e (Some d) less = pins_asked w n i e d (w.slot d i).state less

pub ended_done : (w : World) (n : ℕ) (o : Option (ℕ × ℕ)) → Ended ≡ (done_row w n o).0
ended_done w n None = refl
ended_done w n (Some (d, j)) = refl

pub ended_quit : (w : World) (n : ℕ) (o : Option (ℕ × ℕ)) → Ended ≡ (quit_row w n o).0
ended_quit w n None = refl
ended_quit w n (Some (d, j)) = refl
