-- Each event leaves a valid World.
use Rattle.std.proofs.Common.{◌≡◌, ◌∙◌, ℕ, ◌≤◌, ◌<◌, length, Bool, true, false, Option, Some, None, ⊎_elim, refl, ap, sym, subst, arith}
use Rattle.std.specs.Prelude.{◌==◌, ◌||◌, not, nat_le, if◌then◌else◌}
use Rattle.std.specs.Option.{is_some}
use Rattle.std.proofs.lemmas.Bool.Decides.{nat_tests}
use Rattle.std.proofs.lemmas.Bool.{cases_eq, eqb-true, true≢false}
use Rattle.mf_edition.specs.Edition.{edition_of, EditionsStay}
use Rattle.mf_flight.specs.declared.slot.Slot.{Slot}
use Rattle.mf_flight.specs.declared.slot.State.{State}
use Rattle.mf_flight.specs.declared.slot.State.TheVariants as state
use Rattle.mf_flight.specs.Slots.{claimed, done, quit}
use Rattle.mf_core.specs.declared.caller.CallerState.{CallerState}
use Rattle.mf_core.specs.declared.error.CoreError.{CoreError}
use Rattle.mf_core.specs.declared.error.CoreError.TheVariants.{CallersFull, NotYours}
use Rattle.mf_core.specs.declared.event.Event.{Event}
use Rattle.mf_core.specs.declared.event.Event.TheVariants.{Join, Publish, Pin, Ask, Done, Quit, Unpin, Leave}
use Rattle.mf_core.specs.Worlds.{away, new_world, World, with_caller, with_slot}
use Rattle.mf_core.specs.Steps.{asked_row, ask_row, done_row, is_not_yours, is_past, limit, maker, most_callers, quit_row, refusal, row}
use Rattle.mf_core.specs.Runs.{after, after_by}
use Rattle.mf_core.specs.Valid.{AreClaimed, IsInductive, Valid}
use Rattle.mf_core.proofs.Puts.{both_cases, here, neither, not_true, part_stays, there}
use Rattle.mf_core.proofs.Claims.{claims_stay, idle_not_claimed, nothing_claimed, one_less, one_more, ready_not_claimed}
use Rattle.mf_core.proofs.Rows.{Sound, join_sound, keeps_left, own_sound, publish_sound, seen_with, sound, swept_valid}

some_pin : (a b : ℕ) → Some a ≡ Some b → a ≡ b
some_pin a b is = cc

no_pin : (e : ℕ) → None ≡ Some e → ⊥
no_pin e is = cc

pub no_some : {X : Type 0} (o : Option X) → is_some o ≡ false → o ≡ None
no_some None is = refl
no_some (Some x) is = absurd (true≢false is)

-- a caller without a claim pins another edition, or none
repin_sound : (w : World) → Valid w → (n : ℕ) (new : CallerState) → (w.caller n).joined ≡ true → (w.caller n).claim ≡ None
    → new.joined ≡ true → new.made ≡ (w.caller n).made → new.claim ≡ (w.caller n).claim
    → ((e : ℕ) → new.pinned ≡ Some e → e ≤ new.seen) → new.seen ≤ length w.log → Sound (with_caller w n new)
repin_sound w v n new is free joined made claim pin seen =
    own_sound w (sound w v) n new w.slot is joined made pin seen
    (claims_stay (λ m. (w.caller m).pinned) (λ m. (if m == n then new else w.caller m).pinned)
    (λ m. (w.caller m).claim) (λ m. (if m == n then new else w.caller m).claim) w.slot
    (part_stays (λ (c : CallerState). c.claim) w.caller n new claim)
    (λ m e i own. ap (λ (c : CallerState). c.pinned) (there w.caller n new m
    (λ same. nothing_claimed (e, i) (sym free ∙ ap (λ k. (w.caller k).claim) (sym same) ∙ own)))) v.claims)
    v.inside

-- a caller's claim and one entry change
entry_sound : (w : World) → Valid w → (n e i : ℕ) (new : CallerState) (slot : Slot (Unit {0})) → (w.caller n).joined ≡ true
    → new.joined ≡ true → new.made ≡ (w.caller n).made → new.seen ≡ (w.caller n).seen → new.pinned ≡ (w.caller n).pinned
    → (length (edition_of w.log e).items ≤ i → ⊥)
    → AreClaimed (λ m. ((with_caller w n new).caller m).pinned) (λ m. ((with_caller w n new).caller m).claim) (with_slot w e i slot).slot
    → Sound (with_slot (with_caller w n new) e i slot)
entry_sound w v n e i new slot is joined made seen pinned inside claims =
    own_sound w (sound w v) n new (with_slot w e i slot).slot is joined made
    (λ d pin. let a = v.seen.pin n d (sym pinned ∙ pin) in omega arith) (let a = v.seen.most n in omega arith) claims
    (λ d j past. ⊎_elim (λ (h : (d ≡ e) × (j ≡ i)). absurd (inside (subst (λ (k : ℕ × ℕ). length (edition_of w.log k.0).items ≤ k.1) (λ k. (h.0 k, h.1 k)) past)))
    (λ (k : (with_slot w e i slot).slot d j ≡ w.slot d j). k ∙ v.inside d j past) (both_cases w.slot e i slot d j))

-- an entry that isn't as nobody asked for it is inside its edition
not_past : (w : World) → Valid w → (e i : ℕ) → (w.slot e i).state ≡ state.Claimed → length (edition_of w.log e).items ≤ i → ⊥
not_past w v e i is past = idle_not_claimed (sym (ap (λ (s : Slot (Unit {0})). s.state) (v.inside e i past)) ∙ is)

ended_sound : (w : World) → Valid w → (n : ℕ) (slot : Slot (Unit {0}) → Slot (Unit {0}))
    → ((s : Slot (Unit {0})) → (slot s).state ≡ state.Claimed → ⊥) → (w.caller n).joined ≡ true
    → (e i : ℕ) → (w.caller n).claim ≡ Some (e, i)
    → Sound (with_slot (with_caller w n (record (w.caller n) { claim = None })) e i (slot (w.slot e i)))
ended_sound w v n slot ends is e i own =
    let new : CallerState = record (w.caller n) { claim = None } in
    let t = v.claims.entry n e i own in
    entry_sound w v n e i new (slot (w.slot e i)) is is refl refl refl (not_past w v e i t.1)
    (one_less (λ m. (w.caller m).pinned) (λ m. (if m == n then new else w.caller m).pinned)
    (λ m. (w.caller m).claim) (λ m. (if m == n then new else w.caller m).claim) w.slot n e i (slot (w.slot e i))
    (part_stays (λ (c : CallerState). c.pinned) w.caller n new refl)
    (λ m other. ap (λ (c : CallerState). c.claim) (there w.caller n new m other)) v.claims own
    (ap (λ (c : CallerState). c.claim) (here w.caller n new n refl)) (ends (w.slot e i)))

done_sound : (w : World) → Valid w → (n : ℕ) → (w.caller n).joined ≡ true → (o : Option (ℕ × ℕ)) → (w.caller n).claim ≡ o
    → Sound (done_row w n o).1
done_sound w v n is None own = sound w v
done_sound w v n is (Some (e, i)) own = ended_sound w v n (λ s. done s tt) (λ s. ready_not_claimed) is e i own

quit_sound : (w : World) → Valid w → (n : ℕ) → (w.caller n).joined ≡ true → (o : Option (ℕ × ℕ)) → (w.caller n).claim ≡ o
    → Sound (quit_row w n o).1
quit_sound w v n is None own = sound w v
quit_sound w v n is (Some (e, i)) own = ended_sound w v n (λ s. quit s) (λ s. idle_not_claimed) is e i own

asked_sound : (w : World) → Valid w → (n e i : ℕ) → (w.caller n).joined ≡ true → (w.caller n).pinned ≡ Some e → (w.caller n).claim ≡ None
    → nat_le (length (edition_of w.log e).items) i ≡ false → (s : State (Unit {0})) → (w.slot e i).state ≡ s → Sound (asked_row w n e i s).1
asked_sound w v n e i is pin free inside state.Claimed was = sound w v
asked_sound w v n e i is pin free inside (state.Ready plan) was = sound w v
asked_sound w v n e i is pin free inside state.Idle was =
    let new : CallerState = record (w.caller n) { claim = Some (e, i) } in
    entry_sound w v n e i new (claimed (w.slot e i)) is is refl refl refl (λ past. true≢false (sym (is_le (length (edition_of w.log e).items) i past) ∙ inside))
    (one_more (λ m. (w.caller m).pinned) (λ m. (if m == n then new else w.caller m).pinned)
    (λ m. (w.caller m).claim) (λ m. (if m == n then new else w.caller m).claim) w.slot n e i (claimed (w.slot e i))
    (part_stays (λ (c : CallerState). c.pinned) w.caller n new refl)
    (λ m other. ap (λ (c : CallerState). c.claim) (there w.caller n new m other)) v.claims
    (ap (λ (c : CallerState). c.claim) (here w.caller n new n refl)) pin refl was free)
  where
    is_le : (a b : ℕ) → a ≤ b → nat_le a b ≡ true
    is_le a b low = grind (arith, nat_tests)

ask_sound : (w : World) → Valid w → (n i : ℕ) → (w.caller n).joined ≡ true → (w.caller n).claim ≡ None
    → (o : Option ℕ) → (w.caller n).pinned ≡ o → is_past w o i ≡ false → Sound (ask_row w n i o).1
ask_sound w v n i is free None pin inside = sound w v
ask_sound w v n i is free (Some e) pin inside = asked_sound w v n e i is pin free inside (w.slot e i).state refl

leave_sound : (w : World) → Valid w → (n : ℕ) → (w.caller n).pinned ≡ None → (w.caller n).claim ≡ None → Sound (with_caller w n away)
leave_sound w v n pin claim = record {
  numbers = record {
    made_count = λ m joined. ⊎_elim
        (λ (same : m ≡ n). absurd (true≢false (sym joined ∙ ap (λ (c : CallerState). c.joined) (here w.caller n away m same))))
        (λ (other : m ≡ n → ⊥). let at = there w.caller n away m other in
        ap (λ (c : CallerState). c.made) at ∙ v.numbers.made_count m (sym (ap (λ (c : CallerState). c.joined) at) ∙ joined)) (cases_eq m n);
    in_order = v.numbers.in_order;
    below = v.numbers.below;
    later = λ m far. ⊎_elim (λ (same : m ≡ n). ap (λ (c : CallerState). c.joined) (here w.caller n away m same))
        (λ (other : m ≡ n → ⊥). ap (λ (c : CallerState). c.joined) (there w.caller n away m other) ∙ v.numbers.later m far) (cases_eq m n);
  };
  left = keeps_left w.caller n away (λ is. refl) v.left;
  few = v.few;
  small = v.small;
  callers = v.callers;
  seen = seen_with (length w.log) (length w.log) w.caller n away (omega arith) (λ e is. absurd (no_pin e is)) (omega arith) v.seen;
  claims = claims_stay (λ m. (w.caller m).pinned) (λ m. (if m == n then away else w.caller m).pinned)
      (λ m. (w.caller m).claim) (λ m. (if m == n then away else w.caller m).claim) w.slot
      (part_stays (λ (c : CallerState). c.claim) w.caller n away (sym claim))
      (λ m e i own. part_stays (λ (c : CallerState). c.pinned) w.caller n away (sym pin) m) v.claims;
  inside = v.inside;
}

-- an event that its maker may make, and that meets no limit, has a row that is sound
pub row_sound : (w : World) → Valid w → EditionsStay → (event : Event) → is_not_yours w event (w.caller (maker event)) ≡ false
    → limit w event ≡ None → Sound (row w event).1
row_sound w v stay (Join n) yours none =
    join_sound w (sound w v) n (eqb-true n w.next (not_true (n == w.next) yours)) (room (nat_le most_callers w.next) refl none)
  where
    room : (b : Bool) → nat_le most_callers w.next ≡ b → (if b then Some CallersFull else None) ≡ None → w.next < most_callers
    room true test is = absurd (cc)
    room false test is = grind (arith, nat_tests)
row_sound w v stay (Publish n change) yours none =
    publish_sound w v stay n change (not_true (w.caller n).joined yours) none
row_sound w v stay (Pin n) yours none =
    let c : CallerState = w.caller n in
    let a = neither (not c.joined) (is_some c.claim) yours in
    let is = not_true c.joined a.0 in
    repin_sound w v n (record c { pinned = Some (length w.log); seen = length w.log }) is (no_some c.claim a.1) is refl refl
    (λ e pin. let same : length w.log ≡ e = some_pin (length w.log) e pin in omega arith) (omega arith)
row_sound w v stay (Ask n i) yours none =
    let c : CallerState = w.caller n in
    let a = neither (not c.joined || not (is_some c.pinned) || is_some c.claim) (is_past w c.pinned i) yours in
    let b = neither (not c.joined || not (is_some c.pinned)) (is_some c.claim) a.0 in
    let d = neither (not c.joined) (not (is_some c.pinned)) b.0 in
    ask_sound w v n i (not_true c.joined d.0) (no_some c.claim b.1) c.pinned refl a.1
row_sound w v stay (Done n) yours none =
    let a = neither (not (w.caller n).joined) (not (is_some (w.caller n).claim)) yours in
    done_sound w v n (not_true (w.caller n).joined a.0) (w.caller n).claim refl
row_sound w v stay (Quit n) yours none =
    let a = neither (not (w.caller n).joined) (not (is_some (w.caller n).claim)) yours in
    quit_sound w v n (not_true (w.caller n).joined a.0) (w.caller n).claim refl
row_sound w v stay (Unpin n) yours none =
    let c : CallerState = w.caller n in
    let b = neither (not c.joined || not (is_some c.pinned)) (is_some c.claim) yours in
    let d = neither (not c.joined) (not (is_some c.pinned)) b.0 in
    let is = not_true c.joined d.0 in
    repin_sound w v n (record c { pinned = None }) is (no_some c.claim b.1) is refl refl (λ e pin. absurd (no_pin e pin)) (v.seen.most n)
row_sound w v stay (Leave n) yours none =
    let c : CallerState = w.caller n in
    let b = neither (not c.joined || is_some c.pinned) (is_some c.claim) yours in
    let d = neither (not c.joined) (is_some c.pinned) b.0 in
    leave_sound w v n (no_some c.pinned d.1) (no_some c.claim b.1)

-- an event that isn't refused is its maker's, and meets no limit
pub allowed : (w : World) (event : Event) → refusal w event ≡ None
    → (is_not_yours w event (w.caller (maker event)) ≡ false) × (limit w event ≡ None)
allowed w event none = by (is_not_yours w event (w.caller (maker event))) refl none
  where
    by : (b : Bool) → is_not_yours w event (w.caller (maker event)) ≡ b
        → (if b then Some (NotYours (w.caller (maker event))) else limit w event) ≡ None
        → (is_not_yours w event (w.caller (maker event)) ≡ false) × (limit w event ≡ None)
    by true is none = absurd (cc)
    by false is none = (is, none)

pub valid_step : EditionsStay → (w : World) (event : Event) → Valid w → Valid (after w event)
valid_step stay w event v = by (refusal w event) refl
  where
    by : (o : Option CoreError) → refusal w event ≡ o → Valid (after_by o w (row w event).1)
    by None none = let a = allowed w event none in swept_valid (row w event).1 (row_sound w v stay event a.0 a.1)
    by (Some error) is = v

pub valid_new : Valid new_world
valid_new = record {
  numbers = record { made_count = λ n is. refl; in_order = λ n. refl; below = λ n far. refl; later = λ n far. refl };
  left = λ n is. refl;
  few = omega arith;
  small = omega arith;
  callers = omega arith;
  seen = record { pin = λ n e is. absurd (no_pin e is); most = λ n. omega arith };
  claims = record {
    entry = λ n e i is. absurd (nothing_claimed (e, i) is);
    one = λ n m e i is also. absurd (nothing_claimed (e, i) is);
    some = λ e i is. absurd (idle_not_claimed is);
  };
  live = λ e i is. refl;
  inside = λ e i is. refl;
}

pub valid_inductive : EditionsStay → IsInductive Valid
valid_inductive stay = record { first = valid_new; next = valid_step stay }
