-- What the row of an event keeps, and that what is left is valid.
use Rattle.std.proofs.Common.{◌≡◌, ◌∙◌, ℕ, ◌+◌, ◌≤◌, ◌<◌, List, [], ◌∷◌, ◌++◌, length, length-append, Bool, true, false, Some, None, ◌⊎◌, ⊎_elim, refl, ap, sym, subst, arith}
use Rattle.std.specs.Prelude.{◌==◌, if◌then◌else◌}
use Rattle.std.proofs.lemmas.Bool.{cases_eq, true≢false}
use Rattle.mf_edition.specs.declared.change.Change.{Change}
use Rattle.mf_edition.specs.declared.change.Entry.{Entry}
use Rattle.mf_edition.specs.Edition.{edition_of, EditionsStay}
use Rattle.mf_edition.specs.Sizes.{most_bytes, most_entries, refusal_of, used_by}
use Rattle.mf_flight.specs.declared.slot.State.TheVariants as state
use Rattle.mf_flight.specs.Slots.{fresh}
use Rattle.mf_core.specs.declared.caller.CallerState.{CallerState}
use Rattle.mf_core.specs.declared.event.Event.TheVariants.{Join, Publish}
use Rattle.mf_core.specs.Worlds.{away, World, is_live, with_caller, swept}
use Rattle.mf_core.specs.Steps.{log_error, most_callers, row}
use Rattle.mf_core.specs.Valid.{AreClaimed, AreNumbered, AreSeen, Valid}
use Rattle.mf_core.proofs.Puts.{by_bool, here, part_stays, there}
use Rattle.mf_core.proofs.Pins.{live_cases, live_pin}
use Rattle.mf_core.proofs.Logs.{longer_numbers, longer_used, takes}
use Rattle.mf_core.proofs.Claims.{Slots, claims_stay, idle_not_claimed}

-- what holds before the entries of editions that aren't live are gone
pub record Sound (w : World) : Type 0 where
  pub numbers : AreNumbered w.log w.next (λ n. (w.caller n).joined) (λ n. (w.caller n).made)
  pub left : (n : ℕ) → (w.caller n).joined ≡ false → w.caller n ≡ away
  pub few : length w.log ≤ most_entries
  pub small : used_by w.log ≤ most_bytes
  pub callers : w.next ≤ most_callers
  pub seen : AreSeen (length w.log) (λ n. (w.caller n).seen) (λ n. (w.caller n).pinned)
  pub claims : AreClaimed (λ n. (w.caller n).pinned) (λ n. (w.caller n).claim) w.slot
  pub inside : (e i : ℕ) → length (edition_of w.log e).items ≤ i → w.slot e i ≡ fresh

-- a caller with a pin is below the next number
pub pin_below : (w : World) → Sound w → (n e : ℕ) → (w.caller n).pinned ≡ Some e → n < w.next
pin_below w s n e pin = ⊎_elim (λ less. less)
    (λ (far : w.next ≤ n). let gone = s.left n (s.numbers.later n far) in
    absurd (no_pin e (sym (ap (λ (c : CallerState). c.pinned) gone) ∙ pin))) (less_or_not n w.next)
  where
    less_or_not : (a b : ℕ) → (a < b) ⊎ (b ≤ a)
    less_or_not a b = grind arith

    no_pin : (e : ℕ) → None ≡ Some e → ⊥
    no_pin e is = cc

pub swept_valid : (w : World) → Sound w → Valid (swept w)
swept_valid w s = record {
  numbers = s.numbers;
  left = s.left;
  few = s.few;
  small = s.small;
  callers = s.callers;
  seen = s.seen;
  claims = record {
    entry = λ n e i is. let t = s.claims.entry n e i is in
        (t.0, ap (λ b. (if b then w.slot e i else fresh).state) (live_pin w n e (pin_below w s n e t.0) t.0) ∙ t.1);
    one = s.claims.one;
    some = λ e i is. s.claims.some e i (was e i (is_live w e) is);
  };
  live = λ e i dead. ap (λ b. if b then w.slot e i else fresh) dead;
  inside = λ e i past. none e i (is_live w e) (s.inside e i past);
}
  where
    was : (e i : ℕ) (b : Bool) → (if b then w.slot e i else fresh).state ≡ state.Claimed → (w.slot e i).state ≡ state.Claimed
    was e i true is = is
    was e i false is = absurd (idle_not_claimed is)

    none : (e i : ℕ) (b : Bool) → w.slot e i ≡ fresh → (if b then w.slot e i else fresh) ≡ fresh
    none e i true is = is
    none e i false is = refl

pub sound : (w : World) → Valid w → Sound w
sound w v = record {
  numbers = v.numbers;
  left = v.left;
  few = v.few;
  small = v.small;
  callers = v.callers;
  seen = v.seen;
  claims = v.claims;
  inside = v.inside;
}

-- a joined caller is below the next number
pub joined_below : (w : World) → Sound w → (n : ℕ) → (w.caller n).joined ≡ true → n < w.next
joined_below w s n is = ⊎_elim (λ less. less) (λ (far : w.next ≤ n). absurd (true≢false (sym is ∙ s.numbers.later n far))) (less_or_not n w.next)
  where
    less_or_not : (a b : ℕ) → (a < b) ⊎ (b ≤ a)
    less_or_not a b = grind arith

-- one caller has seen and pinned something else
pub seen_with : (editions editions' : ℕ) (caller : ℕ → CallerState) (n : ℕ) (new : CallerState) → editions ≤ editions'
    → ((e : ℕ) → new.pinned ≡ Some e → e ≤ new.seen) → new.seen ≤ editions'
    → AreSeen editions (λ m. (caller m).seen) (λ m. (caller m).pinned)
    → AreSeen editions' (λ m. (if m == n then new else caller m).seen) (λ m. (if m == n then new else caller m).pinned)
seen_with editions editions' caller n new more pin most old =
    let Fits : CallerState → Type 0 = λ c. (e : ℕ) → c.pinned ≡ Some e → e ≤ c.seen in
    let Most : CallerState → Type 0 = λ c. c.seen ≤ editions' in
    record {
      pin = λ m. ⊎_elim (λ (same : m ≡ n). subst Fits (sym (here caller n new m same)) pin)
          (λ (other : m ≡ n → ⊥). subst Fits (sym (there caller n new m other)) (old.pin m)) (cases_eq m n);
      most = λ m. ⊎_elim (λ (same : m ≡ n). subst Most (sym (here caller n new m same)) most)
          (λ (other : m ≡ n → ⊥). subst Most (sym (there caller n new m other)) (let low = old.most m in omega arith)) (cases_eq m n);
    }

-- one joined caller has another state, in which it is joined and has as many entries
keeps_numbers : (log : List Entry) (next : ℕ) (caller : ℕ → CallerState) (n : ℕ) (new : CallerState)
    → new.joined ≡ (caller n).joined → new.made ≡ (caller n).made
    → AreNumbered log next (λ m. (caller m).joined) (λ m. (caller m).made)
    → AreNumbered log next (λ m. (if m == n then new else caller m).joined) (λ m. (if m == n then new else caller m).made)
keeps_numbers log next caller n new joined made old =
    let stays = part_stays (λ (c : CallerState). c.joined) caller n new joined in
    record {
      made_count = λ m is. part_stays (λ (c : CallerState). c.made) caller n new made m ∙ old.made_count m (sym (stays m) ∙ is);
      in_order = old.in_order;
      below = old.below;
      later = λ m far. stays m ∙ old.later m far;
    }

-- a caller's new state, if it is joined, leaves the others
pub keeps_left : (caller : ℕ → CallerState) (n : ℕ) (new : CallerState) → (new.joined ≡ false → new ≡ away)
    → ((m : ℕ) → (caller m).joined ≡ false → caller m ≡ away)
    → (m : ℕ) → (if m == n then new else caller m).joined ≡ false → (if m == n then new else caller m) ≡ away
keeps_left caller n new own old m is = ⊎_elim
    (λ (same : m ≡ n). let at = here caller n new m same in at ∙ own (sym (ap (λ (c : CallerState). c.joined) at) ∙ is))
    (λ (other : m ≡ n → ⊥). let at = there caller n new m other in at ∙ old m (sym (ap (λ (c : CallerState). c.joined) at) ∙ is))
    (cases_eq m n)

is_joined : (c : CallerState) → c.joined ≡ true → c.joined ≡ false → c ≡ away
is_joined c is isnt = absurd (true≢false (sym is ∙ isnt))

-- a joined caller has another state, with the same number of entries, and the entries change
pub own_sound : (w : World) → Sound w → (n : ℕ) (new : CallerState) (slot : Slots)
    → (w.caller n).joined ≡ true → new.joined ≡ true → new.made ≡ (w.caller n).made
    → ((e : ℕ) → new.pinned ≡ Some e → e ≤ new.seen) → new.seen ≤ length w.log
    → AreClaimed (λ m. (if m == n then new else w.caller m).pinned) (λ m. (if m == n then new else w.caller m).claim) slot
    → ((e i : ℕ) → length (edition_of w.log e).items ≤ i → slot e i ≡ fresh)
    → Sound (record (with_caller w n new) { slot = slot })
own_sound w s n new slot was joined made pin seen claims inside = record {
  numbers = keeps_numbers w.log w.next w.caller n new (joined ∙ sym was) made s.numbers;
  left = keeps_left w.caller n new (is_joined new joined) s.left;
  few = s.few;
  small = s.small;
  callers = s.callers;
  seen = seen_with (length w.log) (length w.log) w.caller n new (omega arith) pin seen s.seen;
  claims = claims;
  inside = inside;
}

pub join_sound : (w : World) → Sound w → (n : ℕ) → n ≡ w.next → w.next < most_callers → Sound (row w (Join n)).1
join_sound w s n is room =
    let new : CallerState = record away { joined = true; seen = length w.log } in
    let gone : w.caller n ≡ away = s.left n (s.numbers.later n (omega arith)) in
    let pins = part_stays (λ (c : CallerState). c.pinned) w.caller n new (sym (ap (λ (c : CallerState). c.pinned) gone)) in
    let claims = part_stays (λ (c : CallerState). c.claim) w.caller n new (sym (ap (λ (c : CallerState). c.claim) gone)) in
    record {
      numbers = record {
        made_count = λ m joined. ⊎_elim
            (λ (same : m ≡ n). ap (λ (c : CallerState). c.made) (here w.caller n new m same) ∙ sym (s.numbers.below m (omega arith)))
            (λ (other : m ≡ n → ⊥). let at = there w.caller n new m other in
            ap (λ (c : CallerState). c.made) at ∙ s.numbers.made_count m (sym (ap (λ (c : CallerState). c.joined) at) ∙ joined)) (cases_eq m n);
        in_order = s.numbers.in_order;
        below = λ m far. s.numbers.below m (omega arith);
        later = λ m far. ap (λ (c : CallerState). c.joined) (there w.caller n new m (λ same. omega arith)) ∙ s.numbers.later m (omega arith);
      };
      left = keeps_left w.caller n new (is_joined new refl) s.left;
      few = s.few;
      small = s.small;
      callers = omega arith;
      seen = seen_with (length w.log) (length w.log) w.caller n new (omega arith) (λ e pin. absurd (no_pin e pin)) (omega arith) s.seen;
      claims = claims_stay (λ m. (w.caller m).pinned) (λ m. (if m == n then new else w.caller m).pinned)
          (λ m. (w.caller m).claim) (λ m. (if m == n then new else w.caller m).claim) w.slot claims (λ m e i is. pins m) s.claims;
      inside = s.inside;
    }
  where
    no_pin : (e : ℕ) → None ≡ Some e → ⊥
    no_pin e is = cc

pub publish_sound : (w : World) → Valid w → EditionsStay → (n : ℕ) (change : Change) → (w.caller n).joined ≡ true
    → log_error (refusal_of w.log change) ≡ None → Sound (row w (Publish n change)).1
publish_sound w v stay n change is none =
    let s = sound w v in
    let c : CallerState = w.caller n in
    let entry : Entry = record { caller = n; nth = c.made + 1; change = change } in
    let new : CallerState = record c { made = c.made + 1; seen = length w.log + 1 } in
    let room = takes w.log change none in
    let long = length-append w.log (entry ∷ []) in
    record {
      numbers = longer_numbers_of entry new refl refl refl is (longer_numbers w.log w.next (λ m. (w.caller m).joined)
          (λ m. (w.caller m).made) (λ m. (if m == n then new else w.caller m).made) entry s.numbers is refl
          (ap (λ (c : CallerState). c.made) (here w.caller n new n refl))
          (λ m other. ap (λ (c : CallerState). c.made) (there w.caller n new m other)));
      left = keeps_left w.caller n new (is_joined new is) s.left;
      few = omega (arith, room.0);
      small = longer_used w.log entry room.1;
      callers = s.callers;
      seen = seen_with (length w.log) (length (w.log ++ entry ∷ [])) w.caller n new (omega arith)
          (λ e pin. let a = s.seen.pin n e pin in let b = s.seen.most n in omega arith) (omega arith) s.seen;
      claims = claims_stay (λ m. (w.caller m).pinned) (λ m. (if m == n then new else w.caller m).pinned)
          (λ m. (w.caller m).claim) (λ m. (if m == n then new else w.caller m).claim) w.slot
          (part_stays (λ (c : CallerState). c.claim) w.caller n new refl) (λ m e i own. part_stays (λ (c : CallerState). c.pinned) w.caller n new refl m) s.claims;
      inside = λ e i past. ⊎_elim
          (λ (low : e ≤ length w.log). v.inside e i (subst (λ k. length k ≤ i) (ap (λ k. k.items) (stay w.log (entry ∷ []) e low)) past))
          (λ (far : length w.log < e). v.live e i (not_live e far)) (low_or_not e (length w.log));
    }
  where
    longer_numbers_of : (entry : Entry) (new : CallerState) → entry.caller ≡ n → new.joined ≡ (w.caller n).joined
        → new.made ≡ (w.caller n).made + 1 → (w.caller n).joined ≡ true
        → AreNumbered (w.log ++ entry ∷ []) w.next (λ m. (w.caller m).joined) (λ m. (if m == n then new else w.caller m).made)
        → AreNumbered (w.log ++ entry ∷ []) w.next (λ m. (if m == n then new else w.caller m).joined) (λ m. (if m == n then new else w.caller m).made)
    longer_numbers_of entry new own joined made is old =
        let stays = part_stays (λ (c : CallerState). c.joined) w.caller n new joined in record {
          made_count = λ m is. old.made_count m (sym (stays m) ∙ is);
          in_order = old.in_order;
          below = old.below;
          later = λ m far. stays m ∙ old.later m far;
        }

    low_or_not : (a b : ℕ) → (a ≤ b) ⊎ (b < a)
    low_or_not a b = grind arith

    not_live : (e : ℕ) → length w.log < e → is_live w e ≡ false
    not_live e far = ⊎_elim
        (λ (live : is_live w e ≡ true). absurd (⊎_elim (λ (newest : e ≡ length w.log). omega arith)
        (λ (t : (m : ℕ) × (m < w.next) × ((w.caller m).pinned ≡ Some e)). let a = v.seen.pin t.0 e t.2 in let b = v.seen.most t.0 in omega arith)
        (live_cases w e live)))
        (λ dead. dead) (by_bool (is_live w e))
