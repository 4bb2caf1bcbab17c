-- What the board of a World say after an event.
use Rattle.std.proofs.Common.{◌≡◌, ◌∙◌, ℕ, zero, suc, ◌+◌, ◌≤◌, ◌<◌, ◌^◌, List, [], ◌∷◌, length, Bool, true, false, Option, Some, None, ◌⊎◌, inl, inr, ⊎_elim, refl, ap, sym, subst, arith}
use Rattle.std.specs.Prelude.{◌==◌, ◌&&◌, ◌||◌, not, nat_le, nat_lt, IfSome, Ok, Err, if◌then◌else◌}
use Rattle.std.specs.Option.{unwrap_or}
use Rattle.std.proofs.lemmas.Bool.Decides.{nat_tests}
use Rattle.std.proofs.lemmas.Bool.{cases_eq, eq-eqb, ne_eqb, true≢false}
use Rattle.mf_edition.specs.declared.change.Entry.{Entry}
use Rattle.mf_edition.specs.Edition.{edition_of, EditionsStay}
use Rattle.mf_flight.specs.Sums.{sum_below}
use Rattle.mf_flight.specs.declared.slot.Slot.{Slot}
use Rattle.mf_flight.specs.declared.slot.State.{State}
use Rattle.mf_flight.specs.declared.slot.State.TheVariants as state
use Rattle.mf_flight.specs.Slots.{asked, claimed, fresh, state_asked}
use Rattle.mf_flight.specs.Flights.{answer_to}
use Rattle.mf_flight.specs.declared.flights.Asked.TheVariants as asked_as
use Rattle.mf_legal.specs.Calls.{made_by, one_if}
use Rattle.mf_core.specs.declared.caller.CallerState.{CallerState}
use Rattle.mf_core.specs.declared.error.CoreError.{CoreError}
use Rattle.mf_core.specs.declared.error.CoreError.TheVariants.{CallersFull, NotYours}
use Rattle.mf_core.specs.declared.event.Event.{Event}
use Rattle.mf_core.specs.declared.event.Told.{Told}
use Rattle.mf_core.specs.declared.held.Held.{Held}
use Rattle.mf_core.specs.declared.board.Board.{Board}
use Rattle.mf_core.specs.Worlds.{World, is_at, is_live, pins, swept, with_caller}
use Rattle.mf_core.specs.Steps.{limit, maker, most_callers, refusal, row, IsDue, IsYours}
use Rattle.mf_core.specs.Valid.{Valid}
use Rattle.mf_flight.specs.declared.flights.Flights.{Flights}
use Rattle.mf_flight.specs.Flights.{slot_of}
use Rattle.mf_core.specs.declared.event.Told.TheVariants as told_as
use Rattle.mf_core.specs.Kept.{blank, blank_state, board_world, held_at, is_dead, repinned, Does, IsKept}
use Rattle.mf_core.specs.Steps.{asked_row}
use Rattle.mf_core.proofs.Puts.{both_cases, both_here, by_bool, here, is_at_some, there}
use Rattle.mf_core.proofs.Pins.{counts, live_cases, live_newest, live_pin}
use Rattle.mf_core.proofs.Claims.{nothing_claimed}
use Rattle.mf_core.proofs.Rows.{pin_below, sound, swept_valid}
use Rattle.mf_core.proofs.Steps.{row_sound}

-- what a caller has pinned is an edition of the log
pub pin_low : (w : World) → Valid w → (n : ℕ) (o : Option ℕ) → (w.caller n).pinned ≡ o → IfSome o (λ e. e ≤ length w.log)
pin_low w v n None is = tt
pin_low w v n (Some e) is = let a = v.seen.pin n e is in let b = v.seen.most n in omega arith

-- two Worlds that say the same are one
pub same_world : (w x : World) → w.log ≡ x.log → w.next ≡ x.next → ((n : ℕ) → w.caller n ≡ x.caller n)
    → ((e i : ℕ) → w.slot e i ≡ x.slot e i) → w ≡ x
same_world w x log next caller slot = λ k. record { log = log k; next = next k; caller = λ n. caller n k; slot = λ e i. slot e i k }

-- a board with other entries
abbrev pub with_flights : {P : Type 0} → Board P → Flights P → Board P
with_flights board flights = record { log = board.log; callers = board.callers; editions = board.editions; flights = flights }

-- where each is as it was, the World is
pub same_flights : {P : Type 0} (board : Board P) (flights : Flights P)
    → ((e i : ℕ) → slot_of flights e i ≡ slot_of board.flights e i) → board_world (with_flights board flights) ≡ board_world board
same_flights board flights slots =
    same_world (board_world (with_flights board flights)) (board_world board) refl refl (λ n. refl) (λ e i. ap blank (slots e i))

-- an event that is its maker's, and meets no limit, isn't refused
no_refusal : (w : World) (event : Event) → IsYours w event → limit w event ≡ None → refusal w event ≡ None
no_refusal w event yours none =
    ap (λ b. if b then Some (NotYours (w.caller (maker event))) else limit w event) yours ∙ none

-- it does its step
pub does : (w : World) (event : Event) (told : Told) (after : World) → IsYours w event → limit w event ≡ None → told ≡ (row w event).0
    → after ≡ swept (row w event).1 → Does w event (Ok told) after
does w event told after yours none told_is is = record { allowed = no_refusal w event yours none; answers = told_is; changes = is }

-- one that meets its limit is refused
pub limited : (w : World) (event : Event) (error : CoreError) (after : World) → IsYours w event → IsDue (limit w event) error → after ≡ w
    → Does w event (Err error) after
limited w event error after yours due same = (
  subst (λ (o : Option CoreError). IsDue o error)
      (sym (ap (λ b. if b then Some (NotYours (w.caller (maker event))) else limit w event) yours)) due,
  same,
)

-- a live edition stays live where it stays the newest, or its pins stay, but for one edition
pub may_die : (w x : World) (r e : ℕ) → Valid w → ((e : ℕ) → e ≡ length w.log → (is_live x e ≡ true) ⊎ (e ≡ r))
    → ((m : ℕ) → (w.caller m).pinned ≡ Some e → ((x.caller m).pinned ≡ Some e) ⊎ (e ≡ r)) → w.next ≤ x.next
    → is_live w e ≡ true → (is_live x e ≡ true) ⊎ (e ≡ r)
may_die w x r e v newest pins more live = ⊎_elim (newest e)
    (λ (t : (m : ℕ) × (m < w.next) × ((w.caller m).pinned ≡ Some e)). ⊎_elim
    (λ (pin : (x.caller t.0).pinned ≡ Some e). let less = t.1 in inl (live_pin x t.0 e (omega arith) pin)) (λ same. inr same) (pins t.0 t.2))
    (live_cases w e live)

-- what is left where one edition may have died, whose entries are dropped if it has
pub swept_slots : (w x : World) (slot : ℕ → ℕ → Slot (Unit {0})) (r : ℕ) (dead : Bool) → Valid w
    → ((e : ℕ) → is_live w e ≡ true → (is_live x e ≡ true) ⊎ (e ≡ r)) → dead ≡ not (is_live x r)
    → ((e i : ℕ) → slot e i ≡ (if (e == r) && dead then fresh else w.slot e i))
    → (e i : ℕ) → slot e i ≡ (if is_live x e then w.slot e i else fresh)
swept_slots w x slot r dead v dies is drops e i = ⊎_elim
    (λ (live : is_live x e ≡ true). drops e i ∙ ⊎_elim
    (λ (same : e ≡ r). ap (λ b. if (e == r) && b then fresh else w.slot e i) (is ∙ ap not (ap (is_live x) (sym same) ∙ live)) ∙ no_and (e == r))
    (λ (other : e ≡ r → ⊥). ap (λ b. if b && dead then fresh else w.slot e i) (ne_eqb e r other)) (cases_eq e r)
    ∙ sym (ap (λ b. if b then w.slot e i else fresh) live))
    (λ (gone : is_live x e ≡ false). drops e i ∙ ⊎_elim
    (λ (same : e ≡ r). ap (λ b. if b && dead then fresh else w.slot e i) (eq-eqb e r same)
    ∙ ap (λ b. if b then fresh else w.slot e i) (is ∙ ap not (ap (is_live x) (sym same) ∙ gone)))
    (λ (other : e ≡ r → ⊥). ap (λ b. if b && dead then fresh else w.slot e i) (ne_eqb e r other)
    ∙ v.live e i (was_dead e gone other)) (cases_eq e r)
    ∙ sym (ap (λ b. if b then w.slot e i else fresh) gone))
    (by_bool (is_live x e))
  where
    no_and : (b : Bool) → (if b && false then fresh else w.slot e i) ≡ w.slot e i
    no_and true = refl
    no_and false = refl

    was_dead : (e : ℕ) → is_live x e ≡ false → (e ≡ r → ⊥) → is_live w e ≡ false
    was_dead e gone other = ⊎_elim
        (λ (live : is_live w e ≡ true). ⊎_elim (λ (still : is_live x e ≡ true). absurd (true≢false (sym still ∙ gone)))
        (λ (same : e ≡ r). absurd (other same)) (dies e live))
        (λ dead. dead) (by_bool (is_live w e))

-- nothing goes where each entry that isn't as nobody asked for it is of a live edition
pub none_swept : (x : World) → ((e i : ℕ) → is_live x e ≡ false → x.slot e i ≡ fresh)
    → (e i : ℕ) → x.slot e i ≡ (if is_live x e then x.slot e i else fresh)
none_swept x dead e i = by (is_live x e) refl
  where
    by : (b : Bool) → is_live x e ≡ b → x.slot e i ≡ (if b then x.slot e i else fresh)
    by true is = refl
    by false is = dead e i is

-- an edition that isn't live in one World isn't in another with the same pins
pub dead_before : (w x : World) (e : ℕ) → Valid w → length w.log ≡ length x.log → w.next ≤ x.next
    → ((m : ℕ) → (w.caller m).pinned ≡ Some e → (x.caller m).pinned ≡ Some e) → is_live x e ≡ false → is_live w e ≡ false
dead_before w x e v same more pins gone = ⊎_elim
    (λ (live : is_live w e ≡ true). ⊎_elim (λ (newest : e ≡ length w.log). absurd (true≢false (sym (live_newest x e (newest ∙ same)) ∙ gone)))
    (λ (t : (m : ℕ) × (m < w.next) × ((w.caller m).pinned ≡ Some e)). let less = t.1 in
    absurd (true≢false (sym (live_pin x t.0 e (omega arith) (pins t.0 t.2)) ∙ gone))) (live_cases w e live))
    (λ dead. dead) (by_bool (is_live w e))

-- a caller's new state with the same pin leaves the pins
pub pins_stay : (w : World) (n : ℕ) (new : CallerState) (e : ℕ) → new.pinned ≡ (w.caller n).pinned
    → (m : ℕ) → (w.caller m).pinned ≡ Some e → ((with_caller w n new).caller m).pinned ≡ Some e
pins_stay w n new e same m pin = ⊎_elim
    (λ (is : m ≡ n). ap (λ (c : CallerState). c.pinned) (here w.caller n new m is) ∙ same ∙ ap (λ k. (w.caller k).pinned) (sym is) ∙ pin)
    (λ (other : m ≡ n → ⊥). ap (λ (c : CallerState). c.pinned) (there w.caller n new m other) ∙ pin) (cases_eq m n)

-- what is held after an event is right, where the counts are
pub kept_after : {P : Type 0} (board board' : Board P) (event : Event) → EditionsStay → IsKept board → IsYours (board_world board) event
    → limit (board_world board) event ≡ None → board_world board' ≡ swept (row (board_world board) event).1
    → length board'.editions.items ≡ length board'.log + 1
    → ((e : ℕ) → e ≤ length board'.log → (held_at board'.editions.items e).messages ≡ length (edition_of board'.log e).items)
    → ((e : ℕ) → (held_at board'.editions.items e).pins ≡ pins (row (board_world board) event).1 e) → IsKept board'
kept_after board board' event stay kept yours none is many messages counted = record {
  valid = subst Valid (sym is) (swept_valid (row (board_world board) event).1 (row_sound (board_world board) kept.valid stay event yours none));
  many = many;
  messages = messages;
  counted = λ e. counted e ∙ ap (λ (w : World). pins w e) (sym is);
}

-- board that say the same of the World and of editions
pub kept_same : {P : Type 0} (board board' : Board P) → board_world board' ≡ board_world board → board'.editions.items ≡ board.editions.items → IsKept board → IsKept board'
kept_same board board' is held kept =
    let log : board'.log ≡ board.log = ap (λ (w : World). w.log) is in
    record {
      valid = subst Valid (sym is) kept.valid;
      many = ap length held ∙ kept.many ∙ ap (λ (l : List Entry). length l + 1) (sym log);
      messages = λ e low. ap (λ (l : List Held). (held_at l e).messages) held ∙ kept.messages e (subst (λ (l : List Entry). e ≤ length l) log low)
          ∙ ap (λ (l : List Entry). length (edition_of l e).items) (sym log);
      counted = λ e. ap (λ (l : List Held). (held_at l e).pins) held ∙ kept.counted e ∙ ap (λ (w : World). pins w e) (sym is);
    }

pub kept_flights : {P : Type 0} (board : Board P) (flights : Flights P)
    → ((e i : ℕ) → slot_of flights e i ≡ slot_of board.flights e i) → IsKept board → IsKept (with_flights board flights)
kept_flights board flights slots kept = kept_same board (with_flights board flights) (same_flights board flights slots) refl kept

-- what is held after an event that moves pins alone
pub kept_moved : {P : Type 0} (board board' : Board P) (event : Event) (x : World) → EditionsStay → IsKept board → IsYours (board_world board) event
    → limit (board_world board) event ≡ None → x ≡ (row (board_world board) event).1 → x.log ≡ board.log
    → board_world board' ≡ swept x → length board'.editions.items ≡ length board.editions.items
    → ((e : ℕ) → (held_at board'.editions.items e).messages ≡ (held_at board.editions.items e).messages)
    → ((e : ℕ) → (held_at board'.editions.items e).pins ≡ pins x e) → IsKept board'
kept_moved board board' event x stay kept yours none row_is same is many messages counted =
    let log : board'.log ≡ board.log = ap (λ (w : World). w.log) is ∙ same in
    kept_after board board' event stay kept yours none (is ∙ ap swept row_is) (many ∙ kept.many ∙ ap (λ (l : List Entry). length l + 1) (sym log))
    (λ e low. messages e ∙ kept.messages e (subst (λ (l : List Entry). e ≤ length l) log low)
    ∙ ap (λ (l : List Entry). length (edition_of l e).items) (sym log))
    (λ e. counted e ∙ ap (λ (w : World). pins w e) row_is)

sum_le : (f : ℕ → Bool) (n : ℕ) → sum_below (λ m. one_if (f m)) n ≤ n
sum_le f zero = omega arith
sum_le f (suc n) = let a = sum_le f n in let b = one_le (f n) in omega arith
  where
    one_le : (b : Bool) → one_if b ≤ 1
    one_le true = omega arith
    one_le false = omega arith

-- there is room to count one more pin
pub pins_room : {P : Type 0} (board : Board P) → IsKept board → (e : ℕ) → (held_at board.editions.items e).pins + 1 < 2 ^ 32
pins_room board kept e =
    let a = kept.counted e in let b = sum_le (λ n. is_at e ((board_world board).caller n).pinned) (board_world board).next in
    let d = kept.valid.callers in omega arith

-- what a caller has pinned is held, and its pin is counted
pub pin_held : {P : Type 0} (board : Board P) → IsKept board → (n : ℕ) → n < length board.callers.items → (o : Option ℕ)
    → ((board_world board).caller n).pinned ≡ o → IfSome o (λ e. (e < length board.editions.items) × (0 < (held_at board.editions.items e).pins))
pin_held board kept n less None is = tt
pin_held board kept n less (Some e) is =
    let a = kept.valid.seen.pin n e is in let b = kept.valid.seen.most n in let d = kept.many in let f = kept.counted e in
    let g = counts (λ m. is_at e ((board_world board).caller m).pinned) n (board_world board).next less
    (is_at_some e ((board_world board).caller n).pinned is) in
    (omega arith, omega arith)

pub held_edition : (o : Option ℕ) (newest many : ℕ) (P : ℕ → Type 0) → IfSome o (λ e. (e < many) × P e) → newest < many → unwrap_or o newest < many
held_edition None newest many P some less = less
held_edition (Some e) newest many P some less = some.0

-- no entry of an edition that isn't live is claimed, where the pins of callers with claims stayed
pub none_claimed : (w x : World) → Valid w → w.next ≤ x.next → ((m e i : ℕ) → (w.caller m).claim ≡ Some (e, i) → (x.caller m).pinned ≡ (w.caller m).pinned)
    → (r : ℕ) → is_live x r ≡ false → (i : ℕ) → (w.slot r i).state ≡ state.Claimed → ⊥
none_claimed w x v more stays r dead i is =
    let t = v.claims.some r i is in
    let pin = (v.claims.entry t.0 r i t.1).0 in
    let less = pin_below w (sound w v) t.0 r pin in
    true≢false (sym (live_pin x t.0 r (omega arith) (stays t.0 r i t.1 ∙ pin)) ∙ dead)

-- what the counts say of an edition is so
pub dead_is : (editions : List Held) (x : World) (newest r : ℕ) → newest ≡ length x.log → (held_at editions r).pins ≡ pins x r
    → is_dead editions newest r ≡ not (is_live x r)
dead_is editions x newest r same counted = λ k. not ((r == same k) || nat_lt 0 (counted k))

pub was_not : (b : Bool) → not b ≡ true → b ≡ false
was_not true is = absurd (true≢false (sym is))
was_not false is = refl

-- callers with claims keep their pins where another one's changes
pub claims_keep : (w : World) (n : ℕ) (new : CallerState) → (w.caller n).claim ≡ None
    → (m e i : ℕ) → (w.caller m).claim ≡ Some (e, i) → ((with_caller w n new).caller m).pinned ≡ (w.caller m).pinned
claims_keep w n new free m e i own =
    ap (λ (c : CallerState). c.pinned) (there w.caller n new m (λ same. nothing_claimed (e, i) (sym free ∙ ap (λ k. (w.caller k).claim) (sym same) ∙ own)))

-- what one caller's pin may leave without pins
pub repin_dies : (w : World) → Valid w → (n : ℕ) (to : Option ℕ) (seen e : ℕ) → is_live w e ≡ true
    → (is_live (repinned w n to seen) e ≡ true) ⊎ (e ≡ unwrap_or (w.caller n).pinned (length w.log))
repin_dies w v n to seen e =
    let new : CallerState = record (w.caller n) { pinned = to; seen = seen } in
    may_die w (repinned w n to seen) (unwrap_or (w.caller n).pinned (length w.log)) e v
    (λ e newest. inl (live_newest (repinned w n to seen) e newest))
    (λ m pin. ⊎_elim (λ (same : m ≡ n). inr (sym (ap (λ o. unwrap_or o (length w.log)) (ap (λ k. (w.caller k).pinned) (sym same) ∙ pin))))
    (λ (other : m ≡ n → ⊥). inl (ap (λ (c : CallerState). c.pinned) (there w.caller n new m other) ∙ pin)) (cases_eq m n))
    (omega arith)

-- the World after one caller's pin has changed
pub repin_world : (w v : World) → Valid w → (n : ℕ) (to : Option ℕ) (seen r : ℕ) (dead : Bool)
    → r ≡ unwrap_or (w.caller n).pinned (length w.log) → dead ≡ not (is_live (repinned w n to seen) r)
    → v.log ≡ w.log → v.next ≡ w.next
    → ((m : ℕ) → v.caller m ≡ (if m == n then record (w.caller n) { pinned = to; seen = seen } else w.caller m))
    → ((e i : ℕ) → v.slot e i ≡ (if (e == r) && dead then fresh else w.slot e i))
    → v ≡ swept (repinned w n to seen)
repin_world w v valid n to seen r dead is dies log next caller slots =
    same_world v (swept (repinned w n to seen)) log next caller
    (swept_slots w (repinned w n to seen) v.slot r dead valid
    (λ e live. ⊎_elim (λ still. inl still) (λ same. inr (same ∙ sym is)) (repin_dies w valid n to seen e live)) dies slots)

pub no_join_limit : (next : ℕ) → next < most_callers → (if nat_le most_callers next then Some CallersFull else None) ≡ None
no_join_limit next less = ap (λ b. if b then Some CallersFull else None) (not_le most_callers next less)
  where
    not_le : (a b : ℕ) → b < a → nat_le a b ≡ false
    not_le a b less = grind (arith, nat_tests)

-- an answer tells the state
pub was_idle : {P : Type 0} (s : State P) (e i : ℕ) (t : ℕ × ℕ) → answer_to s e i ≡ asked_as.Claimed t → (s ≡ state.Idle) × (t ≡ (e, i))
was_idle state.Idle e i t is = (refl, cc)
was_idle state.Claimed e i t is = absurd (cc)
was_idle (state.Ready plan) e i t is = absurd (cc)

pub was_busy : {P : Type 0} (s : Slot P) (e i : ℕ) → answer_to s.state e i ≡ asked_as.Busy → asked s ≡ s
was_busy {P} s e i is = by s.state refl is
  where
    by : (x : State P) → s.state ≡ x → answer_to x e i ≡ asked_as.Busy → asked s ≡ s
    by state.Idle was is = absurd (cc)
    by state.Claimed was is = λ k. record { state = (ap state_asked was ∙ sym was) k; quits = s.quits }
    by (state.Ready plan) was is = absurd (cc)

pub was_ready : {P : Type 0} (s : Slot P) (e i : ℕ) → answer_to s.state e i ≡ asked_as.Ready → asked s ≡ s
was_ready {P} s e i is = by s.state refl is
  where
    by : (x : State P) → s.state ≡ x → answer_to x e i ≡ asked_as.Ready → asked s ≡ s
    by state.Idle was is = absurd (cc)
    by state.Claimed was is = absurd (cc)
    by (state.Ready plan) was is = λ k. record { state = (ap state_asked was ∙ sym was) k; quits = s.quits }

-- what is told of an entry that isn't idle, and that nothing changes
pub row_ready : {P : Type 0} (w : World) (n e i : ℕ) (s : State P) → answer_to s e i ≡ asked_as.Ready
    → asked_row w n e i (blank_state s) ≡ (told_as.Ready, w)
row_ready w n e i state.Idle is = absurd (cc)
row_ready w n e i state.Claimed is = absurd (cc)
row_ready w n e i (state.Ready plan) is = refl

pub row_busy : {P : Type 0} (w : World) (n e i : ℕ) (s : State P) → answer_to s e i ≡ asked_as.Busy
    → asked_row w n e i (blank_state s) ≡ (told_as.Busy, w)
row_busy w n e i state.Idle is = absurd (cc)
row_busy w n e i state.Claimed is = refl
row_busy w n e i (state.Ready plan) is = absurd (cc)

pub asked_idle : {P : Type 0} (s : Slot P) → s.state ≡ state.Idle → asked s ≡ claimed s
asked_idle s is = λ k. record { state = ap state_asked is k; quits = s.quits }

-- what is put where it is already changes nothing
pub put_same : {X : Type 0} (f : ℕ → ℕ → X) (e i : ℕ) (x : X) → x ≡ f e i → (d j : ℕ) → (if (d == e) && (j == i) then x else f d j) ≡ f d j
put_same f e i x same d j = ⊎_elim
    (λ (h : (d ≡ e) × (j ≡ i)). both_here f e i x d j h.0 h.1 ∙ same ∙ (λ k. f (sym h.0 k) (sym h.1 k))) (λ k. k) (both_cases f e i x d j)

made_le : (n : ℕ) (log : List Entry) → made_by n log ≤ length log
made_le n [] = omega arith
made_le n (entry ∷ log) = let a = made_le n log in let b = one_le (entry.caller == n) in omega arith
  where
    one_le : (b : Bool) → one_if b ≤ 1
    one_le true = omega arith
    one_le false = omega arith

-- a joined caller has made no more entries than there are
pub made_low : (w : World) → Valid w → (n : ℕ) → (w.caller n).joined ≡ true → (w.caller n).made ≤ 65536
made_low w v n is = let a = v.numbers.made_count n is in let b = made_le n w.log in let d = v.few in omega arith
