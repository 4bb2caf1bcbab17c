-- The World after a publication, and what is held of editions then.
use Rattle.std.proofs.Common.{◌≡◌, ◌∙◌, ℕ, zero, suc, ◌+◌, ◌≤◌, ◌<◌, List, [], ◌∷◌, ◌++◌, length, length-append, Bool, false, Option, ◌⊎◌, inl, inr, ⊎_elim, refl, ap, sym, arith}
use Rattle.std.specs.Prelude.{◌==◌, ◌&&◌, not, if◌then◌else◌}
use Rattle.mf_edition.specs.declared.change.Change.{Change}
use Rattle.mf_edition.specs.declared.change.Entry.{Entry}
use Rattle.mf_edition.specs.Edition.{edition_of, newest_edition, EditionsStay, NewestIsLast}
use Rattle.mf_flight.specs.declared.slot.State.TheVariants as state
use Rattle.mf_flight.specs.Slots.{fresh}
use Rattle.mf_core.specs.declared.caller.CallerState.{CallerState}
use Rattle.mf_core.specs.declared.event.Event.TheVariants.{Publish}
use Rattle.mf_core.specs.declared.held.Held.{Held}
use Rattle.mf_core.specs.declared.board.Board.{Board}
use Rattle.mf_core.specs.Worlds.{World, is_live, pins, swept}
use Rattle.mf_core.specs.Steps.{row}
use Rattle.mf_core.specs.Kept.{held_at, is_dead, board_world, repinned, IsKept, MovesPin}
use Rattle.mf_core.specs.Worlds.{is_at}
use Rattle.mf_legal.specs.Calls.{one_if}
use Rattle.mf_core.proofs.Puts.{part_stays}
use Rattle.mf_core.proofs.Pins.{pins_moved}
use Rattle.mf_core.proofs.Events.{pins_same}
use Rattle.mf_core.proofs.Afterwards.{dead_is, may_die, none_claimed, same_world, swept_slots}

-- the pins that are held after one caller's pin has changed
pub repin_counted : {P : Type 0} (board : Board P) (editions : List Held) → IsKept board → (n : ℕ) → n < length board.callers.items → (to : Option ℕ) (seen : ℕ)
    → (from : Option ℕ) → from ≡ ((board_world board).caller n).pinned → MovesPin board.editions.items editions from to
    → (e : ℕ) → (held_at editions e).pins ≡ pins (repinned (board_world board) n to seen) e
repin_counted board editions kept n less to seen from is moves e =
    let w : World = board_world board in
    let new : CallerState = record (w.caller n) { pinned = to; seen = seen } in
    let a = moves.pins e in let b = pins_moved w n new e less in let d = kept.counted e in
    let f = ap (λ o. one_if (is_at e o)) is in omega arith

-- one edition more, without pins
pub pushed_pins : (editions : List Held) (held : Held) → held.pins ≡ 0 → (e : ℕ) → (held_at (editions ++ held ∷ []) e).pins ≡ (held_at editions e).pins
pushed_pins [] held none zero = none
pushed_pins [] held none (suc e) = refl
pushed_pins (first ∷ editions) held none zero = refl
pushed_pins (first ∷ editions) held none (suc e) = pushed_pins editions held none e

pushed_before : (editions : List Held) (held : Held) (e : ℕ) → e < length editions → held_at (editions ++ held ∷ []) e ≡ held_at editions e
pushed_before [] held e less = absurd (omega arith)
pushed_before (first ∷ editions) held zero less = refl
pushed_before (first ∷ editions) held (suc e) less = pushed_before editions held e (omega arith)

pushed_last : (editions : List Held) (held : Held) → held_at (editions ++ held ∷ []) (length editions) ≡ held
pushed_last [] held = refl
pushed_last (first ∷ editions) held = pushed_last editions held

-- the messages that are held after a publication
pub published_messages : {P : Type 0} (board : Board P) (editions : List Held) (log : List Entry) (entry : Entry) (count : ℕ) → IsKept board → EditionsStay → NewestIsLast
    → editions ≡ board.editions.items ++ record { messages = count; pins = 0 } ∷ [] → log ≡ board.log ++ entry ∷ []
    → count ≡ length (newest_edition log).items → (e : ℕ) → e ≤ length log → (held_at editions e).messages ≡ length (edition_of log e).items
published_messages board editions log entry count kept stay last editions_is log_is counts e low =
    let long : length log ≡ length board.log + 1 = ap length log_is ∙ length-append board.log (entry ∷ []) in
    let many = kept.many in
    let held : Held = record { messages = count; pins = 0 } in
    ⊎_elim
    (λ (earlier : e ≤ length board.log).
    ap (λ (l : List Held). (held_at l e).messages) editions_is
    ∙ ap (λ (h : Held). h.messages) (pushed_before board.editions.items held e (omega arith))
    ∙ kept.messages e earlier ∙ ap (λ k. length k.items) (sym (stay board.log (entry ∷ []) e earlier))
    ∙ ap (λ (l : List Entry). length (edition_of l e).items) (sym log_is))
    (λ (new : length board.log < e).
    let here : e ≡ length board.editions.items = omega arith in let there : e ≡ length log = omega arith in
    ap (λ (l : List Held). (held_at l e).messages) editions_is
    ∙ ap (λ k. (held_at (board.editions.items ++ held ∷ []) k).messages) here
    ∙ ap (λ (h : Held). h.messages) (pushed_last board.editions.items held)
    ∙ counts ∙ ap (λ k. length k.items) (sym (last log)) ∙ ap (λ k. length (edition_of log k).items) (sym there))
    (low_or_not e (length board.log))
  where
    low_or_not : (a b : ℕ) → (a ≤ b) ⊎ (b < a)
    low_or_not a b = grind arith

module _ {P : Type 0} (board : Board P) (n : ℕ) (change : Change) (kept : IsKept board) (less : n < length board.callers.items) where
  abbrev world : World
  world = board_world board

  abbrev made_row : World
  made_row = (row world (Publish n change)).1

  -- a publication leaves the pins
  published_pins : (e : ℕ) → pins made_row e ≡ pins world e
  published_pins e =
      pins_same world n (record (world.caller n) { made = (world.caller n).made + 1; seen = length world.log + 1 }) less refl e

  pub published_counted : (editions : List Held) (count : ℕ) → editions ≡ board.editions.items ++ record { messages = count; pins = 0 } ∷ []
      → (e : ℕ) → (held_at editions e).pins ≡ pins made_row e
  published_counted editions count is e =
      ap (λ (l : List Held). (held_at l e).pins) is ∙ pushed_pins board.editions.items (record { messages = count; pins = 0 }) refl e
      ∙ kept.counted e ∙ sym (published_pins e)

  same_pins : (m : ℕ) → (made_row.caller m).pinned ≡ (world.caller m).pinned
  same_pins m = part_stays (λ (c : CallerState). c.pinned) world.caller n
      (record (world.caller n) { made = (world.caller n).made + 1; seen = length world.log + 1 }) refl m

  pub published_dead : (editions : List Held) (count before : ℕ) → editions ≡ board.editions.items ++ record { messages = count; pins = 0 } ∷ []
      → before ≡ length board.log → is_dead editions (before + 1) before ≡ not (is_live made_row before)
  published_dead editions count before is newest =
      dead_is editions made_row (before + 1) before
      (ap (λ k. k + 1) newest ∙ sym (length-append board.log (record { caller = n; nth = (world.caller n).made + 1; change = change } ∷ [])))
      (published_counted editions count is before)

  -- no entry is claimed of an edition that a publication leaves dead
  pub published_free : (r : ℕ) → is_live made_row r ≡ false → (i : ℕ) → (world.slot r i).state ≡ state.Claimed → ⊥
  published_free = none_claimed world made_row kept.valid (omega arith) (λ m e i own. same_pins m)

  -- the World after a publication
  pub published_world : (v : World) (before : ℕ) (dead : Bool) → before ≡ length board.log → dead ≡ not (is_live made_row before)
      → v.log ≡ made_row.log → v.next ≡ world.next → ((m : ℕ) → v.caller m ≡ made_row.caller m)
      → ((e i : ℕ) → v.slot e i ≡ (if (e == before) && dead then fresh else world.slot e i)) → v ≡ swept made_row
  published_world v before dead newest is log next caller slots =
      same_world v (swept made_row) log next caller
      (swept_slots world made_row v.slot before dead kept.valid
      (λ e live. may_die world made_row before e kept.valid (λ e last. inr (last ∙ sym newest)) (λ m pin. inl (same_pins m ∙ pin)) (omega arith) live)
      is slots)
