-- Starts are at most one more than quits.
use Rattle.std.proofs.Common.{◌≡◌, ◌∙◌, ℕ, ◌+◌, ◌-◌, ◌≤◌, ◌<◌, List, [], ◌∷◌, length, length-append, Bool, true, false, Option, Some, None, ◌⊎◌, inl, inr, ⊎_elim, refl, ap, sym, arith}
use Rattle.std.specs.Prelude.{◌==◌, ◌&&◌, ◌++◌, nat_lt, Ok, Err, if◌then◌else◌}
use Rattle.std.proofs.lemmas.Bool.Decides.{nat_tests}
use Rattle.std.proofs.lemmas.Bool.{cases_eq, eq-eqb, eqb-true, true≢false}
use Rattle.mf_edition.specs.declared.change.Entry.{Entry}
use Rattle.mf_edition.specs.Edition.{EditionsStay}
use Rattle.mf_flight.specs.declared.slot.Slot.{Slot}
use Rattle.mf_flight.specs.declared.slot.State.{State}
use Rattle.mf_flight.specs.declared.slot.State.TheVariants as state
use Rattle.mf_flight.specs.Slots.{claimed, done, fresh, quit, taken}
use Rattle.mf_legal.specs.Calls.{one_if}
use Rattle.mf_core.specs.declared.caller.CallerState.{CallerState}
use Rattle.mf_core.specs.declared.error.CoreError.{CoreError}
use Rattle.mf_core.specs.declared.event.Event.{Event}
use Rattle.mf_core.specs.declared.event.Event.TheVariants.{Join, Publish, Pin, Ask, Done, Quit, Unpin, Leave}
use Rattle.mf_core.specs.Worlds.{away, new_world, World, is_at, is_live, with_caller, with_slot, swept}
use Rattle.mf_core.specs.Steps.{asked_row, ask_row, done_row, quit_row, refusal, row}
use Rattle.mf_core.specs.Runs.{after, after_by, answer, answer_by, is_entry, is_quit, is_start, quits_from, starts_from, OncePlusQuits}
use Rattle.mf_core.specs.Valid.{Valid}
use Rattle.mf_core.proofs.Puts.{at_is, both_cases, both_here, by_bool, here, there}
use Rattle.mf_core.proofs.Pins.{live_cases, live_newest, live_pin}
use Rattle.mf_core.proofs.Rows.{pin_below, sound}
use Rattle.mf_core.proofs.Steps.{valid_new, valid_step}

abbrev taken_at : World → ℕ → ℕ → ℕ
taken_at w e i = taken (w.slot e i).state

-- how often an entry may still be begun before it is given back: once where it is idle in a live edition or in one to come
abbrev left_by : World → ℕ → ℕ → Bool → ℕ
left_by w e i true = 1 - taken_at w e i
left_by w e i false = one_if (nat_lt (length w.log) e)

abbrev left : World → ℕ → ℕ → ℕ
left w e i = left_by w e i (is_live w e)

taken_le : (s : State (Unit {0})) → taken s ≤ 1
taken_le state.Idle = omega arith
taken_le state.Claimed = omega arith
taken_le (state.Ready plan) = omega arith

one_if_le : (b : Bool) → one_if b ≤ 1
one_if_le true = omega arith
one_if_le false = omega arith

left_le : (w : World) (e i : ℕ) → left w e i ≤ 1
left_le w e i = by (is_live w e)
  where
    by : (b : Bool) → left_by w e i b ≤ 1
    by true = omega arith
    by false = one_if_le (nat_lt (length w.log) e)

left_swept : (w : World) (e i : ℕ) → left (swept w) e i ≡ left w e i
left_swept w e i = by (is_live w e) refl
  where
    by : (b : Bool) → is_live w e ≡ b → left_by (swept w) e i b ≡ left_by w e i b
    by true is = ap (λ b. 1 - taken (if b then w.slot e i else fresh).state) is
    by false is = refl

live_left : (w : World) (e i : ℕ) → is_live w e ≡ true → left w e i ≡ 1 - taken_at w e i
live_left w e i is = ap (left_by w e i) is

dead_left : (w : World) (e i : ℕ) → is_live w e ≡ false → left w e i ≡ one_if (nat_lt (length w.log) e)
dead_left w e i is = ap (left_by w e i) is

-- an edition to come has its entries idle
coming : (w : World) → Valid w → (e i : ℕ) → length w.log < e → left w e i ≡ 1
coming w v e i far = dead_left w e i (⊎_elim
    (λ (live : is_live w e ≡ true). absurd (⊎_elim (λ (newest : e ≡ length w.log). omega arith)
    (λ (t : (m : ℕ) × (m < w.next) × ((w.caller m).pinned ≡ Some e)). let a = v.seen.pin t.0 e t.2 in let b = v.seen.most t.0 in omega arith)
    (live_cases w e live)))
    (λ dead. dead) (by_bool (is_live w e))) ∙ ap one_if (more (length w.log) e far)
  where
    more : (a b : ℕ) → a < b → nat_lt a b ≡ true
    more a b less = grind (arith, nat_tests)

none_after : (a b : ℕ) → b ≤ a → one_if (nat_lt a b) ≡ 0
none_after a b low = grind (arith, nat_tests)

-- the log grows, and each live edition was live, with no fewer entries taken but for some that were given back, or is the newest
eases : (w x : World) (given e i : ℕ) → Valid w → length w.log ≤ length x.log
    → (is_live x e ≡ true → ((is_live w e ≡ true) × (taken_at w e i ≤ taken_at x e i + given)) ⊎ (length w.log < e))
    → left x e i ≤ left w e i + given
eases w x given e i v grows lives = ⊎_elim
    (λ (live : is_live x e ≡ true). let now = live_left x e i live in ⊎_elim
    (λ (h : (is_live w e ≡ true) × (taken_at w e i ≤ taken_at x e i + given)). let was = live_left w e i h.0 in let a = taken_le (w.slot e i).state in omega arith)
    (λ (far : length w.log < e). let was = coming w v e i far in omega arith) (lives live))
    (λ (dead : is_live x e ≡ false). let now = dead_left x e i dead in ⊎_elim
    (λ (far : length w.log < e). let was = coming w v e i far in let a = one_if_le (nat_lt (length x.log) e) in omega arith)
    (λ (low : e ≤ length w.log). let none = none_after (length x.log) e (omega arith) in omega arith) (less_or_not (length w.log) e))
    (by_bool (is_live x e))
  where
    less_or_not : (a b : ℕ) → (a < b) ⊎ (b ≤ a)
    less_or_not a b = grind arith

-- an edition stays live where a caller's state changes so that each pin of it was there before
was_live : (w x : World) (e : ℕ) → Valid w → length x.log ≡ length w.log
    → ((m : ℕ) → (x.caller m).pinned ≡ Some e → (e ≡ length w.log) ⊎ ((w.caller m).pinned ≡ Some e)) → is_live x e ≡ true → is_live w e ≡ true
was_live w x e v same pins live = ⊎_elim
    (λ (newest : e ≡ length x.log). live_newest w e (newest ∙ same))
    (λ (t : (m : ℕ) × (m < x.next) × ((x.caller m).pinned ≡ Some e)). ⊎_elim (λ (newest : e ≡ length w.log). live_newest w e newest)
    (λ (pin : (w.caller t.0).pinned ≡ Some e). live_pin w t.0 e (pin_below w (sound w v) t.0 e pin) pin) (pins t.0 t.2))
    (live_cases x e live)

no_pin : (e : ℕ) → None ≡ Some e → ⊥
no_pin e is = cc

some_pin : (a b : ℕ) → Some a ≡ Some b → a ≡ b
some_pin a b is = cc

-- a caller's new state pins what the old one pinned
pins_with : (w : World) (n : ℕ) (new : CallerState) (e : ℕ)
    → (new.pinned ≡ Some e → (e ≡ length w.log) ⊎ ((w.caller n).pinned ≡ Some e))
    → (m : ℕ) → ((with_caller w n new).caller m).pinned ≡ Some e → (e ≡ length w.log) ⊎ ((w.caller m).pinned ≡ Some e)
pins_with w n new e own m pin = ⊎_elim
    (λ (same : m ≡ n). ⊎_elim (λ newest. inl newest) (λ p. inr (ap (λ k. (w.caller k).pinned) same ∙ p))
    (own (sym (ap (λ (c : CallerState). c.pinned) (here w.caller n new m same)) ∙ pin)))
    (λ (other : m ≡ n → ⊥). inr (sym (ap (λ (c : CallerState). c.pinned) (there w.caller n new m other)) ∙ pin)) (cases_eq m n)

-- the entry put is taken, or some of it is given back
taken_put : (w : World) (e i : ℕ) (slot : Slot (Unit {0})) (given d j : ℕ)
    → ((d ≡ e) × (j ≡ i) → taken_at w d j ≤ taken slot.state + given) → taken_at w d j ≤ taken_at (with_slot w e i slot) d j + given
taken_put w e i slot given d j own = ⊎_elim
    (λ (h : (d ≡ e) × (j ≡ i)). let a = own h in
    let b = ap (λ (s : Slot (Unit {0})). taken s.state) (both_here w.slot e i slot d j h.0 h.1) in omega arith)
    (λ (k : (with_slot w e i slot).slot d j ≡ w.slot d j). let b = ap (λ (s : Slot (Unit {0})). taken s.state) k in omega arith)
    (both_cases w.slot e i slot d j)

entry_is : (e i : ℕ) (place : ℕ × ℕ) → e ≡ place.0 → i ≡ place.1 → is_entry e i (Some place) ≡ true
entry_is e i place same_e same_i = λ k. eq-eqb place.0 e (sym same_e) k && eq-eqb place.1 i (sym same_i) k

-- a row that begins nothing and gives nothing back
abbrev Eases : World → World → ℕ → ℕ → ℕ → Type 0
Eases w x given e i = left x e i ≤ left w e i + given

-- a caller's new state that pins nothing new leaves as much
state_eases : (w : World) → Valid w → (n : ℕ) (new : CallerState) (next e i : ℕ)
    → (new.pinned ≡ Some e → (e ≡ length w.log) ⊎ ((w.caller n).pinned ≡ Some e)) → Eases w (with_caller (record w { next = next }) n new) 0 e i
state_eases w v n new next e i own =
    let x : World = with_caller (record w { next = next }) n new in
    eases w x 0 e i v (omega arith) (λ live. inl (was_live w x e v refl (pins_with w n new e own) live, omega arith))

ended_eases : (w : World) → Valid w → (n d j : ℕ) (slot : Slot (Unit {0})) (given e i : ℕ)
    → ((e ≡ d) × (i ≡ j) → taken_at w e i ≤ taken slot.state + given)
    → Eases w (with_slot (with_caller w n (record (w.caller n) { claim = None })) d j slot) given e i
ended_eases w v n d j slot given e i own =
    let new : CallerState = record (w.caller n) { claim = None } in
    let x : World = with_slot (with_caller w n new) d j slot in
    eases w x given e i v (omega arith) (λ live. inl (was_live w x e v refl (pins_with w n new e (λ pin. inr pin)) live, taken_put w d j slot given e i own))

done_eases : (w : World) → Valid w → (n e i : ℕ) (o : Option (ℕ × ℕ)) → Eases w (done_row w n o).1 0 e i
done_eases w v n e i None = omega arith
done_eases w v n e i (Some (d, j)) =
    ended_eases w v n d j (done (w.slot d j) tt) 0 e i (λ h. let a = taken_le (w.slot e i).state in omega arith)

quit_eases : (w : World) → Valid w → (n e i : ℕ) (o : Option (ℕ × ℕ)) → Eases w (quit_row w n o).1 (one_if (is_entry e i o)) e i
quit_eases w v n e i None = omega arith
quit_eases w v n e i (Some (d, j)) =
    ended_eases w v n d j (quit (w.slot d j)) (one_if (is_entry e i (Some (d, j)))) e i
    (λ h. let a = taken_le (w.slot e i).state in let b = ap one_if (entry_is e i (d, j) h.0 h.1) in omega arith)

publish_eases : (w : World) → Valid w → (n : ℕ) (entry : Entry) (new : CallerState) (e i : ℕ) → new.pinned ≡ (w.caller n).pinned
    → Eases w (with_caller (record w { log = w.log ++ entry ∷ [] }) n new) 0 e i
publish_eases w v n entry new e i same =
    let x : World = with_caller (record w { log = w.log ++ entry ∷ [] }) n new in
    let long = length-append w.log (entry ∷ []) in
    eases w x 0 e i v (omega arith)
    (λ live. ⊎_elim (λ (newest : e ≡ length x.log). inr (omega arith))
    (λ (t : (m : ℕ) × (m < x.next) × ((x.caller m).pinned ≡ Some e)). ⊎_elim
    (λ (newest : e ≡ length w.log). inl (live_newest w e newest, omega arith))
    (λ (pin : (w.caller t.0).pinned ≡ Some e). inl (live_pin w t.0 e t.1 pin, omega arith))
    (pins_with w n new e (λ own. inr (sym same ∙ own)) t.0 t.2))
    (live_cases x e live))

and_both : (a b : Bool) → (a && b) ≡ true → (a ≡ true) × (b ≡ true)
and_both true b is = (refl, is)
and_both false b is = absurd (true≢false (sym is))

asked_left : (w : World) → Valid w → (n j d : ℕ) → (w.caller n).pinned ≡ Some d → (s : State (Unit {0})) → (w.slot d j).state ≡ s → (e i : ℕ)
    → one_if (is_start w e i (Ask n j) (Ok (asked_row w n d j s).0)) + left (asked_row w n d j s).1 e i ≤ left w e i
asked_left w v n j d pin state.Claimed was e i = omega arith
asked_left w v n j d pin (state.Ready plan) was e i = omega arith
asked_left w v n j d pin state.Idle was e i =
    let new : CallerState = record (w.caller n) { claim = Some (d, j) } in
    let x : World = with_slot (with_caller w n new) d j (claimed (w.slot d j)) in
    let pins = pins_with w n new e (λ p. inr p) in
    ⊎_elim
    (λ (is : (is_at e (w.caller n).pinned && (j == i)) ≡ true).
    let h = and_both (is_at e (w.caller n).pinned) (j == i) is in
    let own = at_is e (w.caller n).pinned h.0 in
    let de : e ≡ d = some_pin e d (sym own ∙ pin) in
    let ji : j ≡ i = eqb-true j i h.1 in
    let live = live_pin w n e (pin_below w (sound w v) n e own) own in
    let before = live_left w e i live in
    let idle : taken_at w e i ≡ 0 = (λ k. taken_at w (de k) (sym ji k)) ∙ ap taken was in
    let now_live : is_live x e ≡ true = live_pin x n e (pin_below w (sound w v) n e own) (ap (λ (c : CallerState). c.pinned) (here w.caller n new n refl) ∙ own) in
    let after_left = live_left x e i now_live in
    let now : taken_at x e i ≡ 1 = ap (λ (s : Slot (Unit {0})). taken s.state) (both_here w.slot d j (claimed (w.slot d j)) e i de (sym ji)) in
    let one = ap one_if is in
    omega arith)
    (λ (isnt : (is_at e (w.caller n).pinned && (j == i)) ≡ false).
    let none = ap one_if isnt in
    let less = eases w x 0 e i v (omega arith) (λ live. inl (
      was_live w x e v refl pins live,
      taken_put w d j (claimed (w.slot d j)) 0 e i (λ h. let a = taken_le (w.slot e i).state in omega arith),
    )) in
    omega arith)
    (by_bool (is_at e (w.caller n).pinned && (j == i)))

ask_left : (w : World) → Valid w → (n j : ℕ) (o : Option ℕ) → (w.caller n).pinned ≡ o → (e i : ℕ)
    → one_if (is_start w e i (Ask n j) (Ok (ask_row w n j o).0)) + left (ask_row w n j o).1 e i ≤ left w e i
ask_left w v n j None pin e i = omega arith
ask_left w v n j (Some d) pin e i = asked_left w v n j d pin (w.slot d j).state refl e i

row_left : (w : World) → Valid w → (event : Event) (e i : ℕ)
    → one_if (is_start w e i event (Ok (row w event).0)) + left (row w event).1 e i ≤ one_if (is_quit w e i event (Ok (row w event).0)) + left w e i
row_left w v (Join n) e i =
    let a = state_eases w v n (record away { joined = true; seen = length w.log }) (w.next + 1) e i (λ pin. absurd (no_pin e pin)) in omega arith
row_left w v (Publish n change) e i =
    let a = publish_eases w v n (record { caller = n; nth = (w.caller n).made + 1; change = change })
    (record (w.caller n) { made = (w.caller n).made + 1; seen = length w.log + 1 }) e i refl in omega arith
row_left w v (Pin n) e i =
    let a = state_eases w v n (record (w.caller n) { pinned = Some (length w.log); seen = length w.log }) w.next e i
    (λ pin. inl (sym (some_pin (length w.log) e pin))) in omega arith
row_left w v (Ask n j) e i = let a = ask_left w v n j (w.caller n).pinned refl e i in omega arith
row_left w v (Done n) e i = let a = done_eases w v n e i (w.caller n).claim in omega arith
row_left w v (Quit n) e i = let a = quit_eases w v n e i (w.caller n).claim in omega arith
row_left w v (Unpin n) e i =
    let a = state_eases w v n (record (w.caller n) { pinned = None }) w.next e i (λ pin. absurd (no_pin e pin)) in omega arith
row_left w v (Leave n) e i = let a = state_eases w v n away w.next e i (λ pin. absurd (no_pin e pin)) in omega arith

refused_start : (w : World) (e i : ℕ) (event : Event) (error : CoreError) → is_start w e i event (Err error) ≡ false
refused_start w e i (Join n) error = refl
refused_start w e i (Publish n change) error = refl
refused_start w e i (Pin n) error = refl
refused_start w e i (Ask n j) error = refl
refused_start w e i (Done n) error = refl
refused_start w e i (Quit n) error = refl
refused_start w e i (Unpin n) error = refl
refused_start w e i (Leave n) error = refl

step_left : (w : World) → Valid w → (event : Event) (e i : ℕ)
    → one_if (is_start w e i event (answer w event)) + left (after w event) e i ≤ one_if (is_quit w e i event (answer w event)) + left w e i
step_left w v event e i = by (refusal w event)
  where
    by : (o : Option CoreError) → one_if (is_start w e i event (answer_by o (row w event).0)) + left (after_by o w (row w event).1) e i
        ≤ one_if (is_quit w e i event (answer_by o (row w event).0)) + left w e i
    by None = let a = row_left w v event e i in let b = left_swept (row w event).1 e i in omega arith
    by (Some error) = let a = ap one_if (refused_start w e i event error) in omega arith

pub starts_bounded : EditionsStay → (events : List Event) (w : World) → Valid w → (e i : ℕ)
    → starts_from w e i events ≤ quits_from w e i events + left w e i
starts_bounded stay [] w v e i = omega arith
starts_bounded stay (event ∷ events) w v e i =
    let a = step_left w v event e i in
    let b = starts_bounded stay events (after w event) (valid_step stay w event v) e i in omega arith

pub once_plus_quits : EditionsStay → OncePlusQuits
once_plus_quits stay events e i =
    let a = starts_bounded stay events new_world valid_new e i in let b = left_le new_world e i in omega arith
