-- What a step that claims a message, or ends a claim, is to the rule of a turn.
use Rattle.std.proofs.Common.{◌≡◌, ◌∙◌, ◌⊎◌, ⊎_elim, ℕ, zero, suc, ◌+◌, ◌^◌, ◌<◌, ◌≤◌, length, Bool, true, false, Option, Some, None, refl, ap, sym, subst, arith}
use Rattle.std.specs.Prelude.{if◌then◌else◌}
use Rattle.std.specs.Arc.{arc_value}
use Rattle.std.specs.declared.alloc.Global.{Global}
use Rattle.std.specs.declared.sync.Arc.{Arc}
use Rattle.mf_core.specs.declared.board.Board.{Board}
use Rattle.mf_core.specs.declared.caller.CallerState.{CallerState}
use Rattle.mf_core.specs.declared.event.Event.TheVariants.{Ask, Done, Quit}
use Rattle.mf_core.specs.declared.event.Told.{Told}
use Rattle.mf_core.specs.declared.event.Told.TheVariants as told_as
use Rattle.mf_core.specs.Kept.{blank_state, board_world, plan_at}
use Rattle.mf_core.specs.Steps.{ask_row, asked_row, done_row, quit_row, Step}
use Rattle.mf_core.specs.Valid.{Valid}
use Rattle.mf_core.specs.Worlds.{is_live, swept, with_caller, with_slot, World}
use Rattle.mf_core.proofs.Events.{nothing_world}
use Rattle.mf_core.proofs.Pins.{live_newest}
use Rattle.mf_core.proofs.Puts.{both_cases, here, part_stays, there}
use Rattle.mf_flight.specs.declared.slot.Slot.{Slot}
use Rattle.mf_flight.specs.declared.slot.State.{State}
use Rattle.mf_flight.specs.declared.slot.State.TheVariants as state
use Rattle.mf_flight.specs.Flights.{slot_of}
use Rattle.mf_flight.specs.Slots.{claimed, done, fresh, plan_of, quit, starts_of, taken}
use Rattle.mf_flight.specs.Sums.{sum_below, IsSum}
use Rattle.mf_turn.specs.Account.{Changes}
use Rattle.mf_edition.proofs.EditionLaws.{newest}
use Rattle.mf_edition.specs.Edition.{edition_of, newest_edition, EditionState}
use Rattle.mf_legal.specs.Calls.{one_if}
use Rattle.mf_plan.specs.declared.plan.Plan.{Plan}
use Rattle.mf_hub.specs.Desks.{IsPlanAt}
use Rattle.mf_hub.specs.Kept.{is_ready_state}
use Rattle.mf_hub.specs.Stores.{account_of, world_of, GetsOf, HasPlans, IsCount, IsStore, Stands, Stored}
use Rattle.mf_hub.specs.declared.got.Got.TheVariants as got
use Rattle.mf_hub.specs.declared.stat.Stat.{Stat}
use Rattle.mf_hub.proofs.Ready.{sum_to}

no_both : (b : Bool) → b ≡ true → b ≡ false → ⊥
no_both b one other = cc

-- one caller has another claim, and one entry, which wasn't ready, is another
pub claim_changes : (s t : Stored) (n e i : ℕ) (claim : Option (ℕ × ℕ)) (slot : Slot (Unit {0})) (extra : ℕ)
    → world_of t ≡ swept (with_slot (with_caller (world_of s) n (record ((world_of s).caller n) { claim = claim })) e i slot)
    → is_ready_state ((world_of s).slot e i).state ≡ false → t.given ≤ s.given + extra
    → Changes n ((world_of s).caller n).pinned claim extra (account_of s) (account_of t)
claim_changes s t n e i claim slot extra is unready given =
    let w : World = world_of s in
    let new : CallerState = record (w.caller n) { claim = claim } in
    let x : World = with_slot (with_caller w n new) e i slot in
    record {
      log = ap (λ (v : World). v.log) is;
      joined = ap (λ (v : World). v.next) is;
      present = λ m. ap (λ (v : World). (v.caller m).joined) is ∙ part_stays (λ (c : CallerState). c.joined) w.caller n new refl m;
      pin_now = ap (λ (v : World). (v.caller n).pinned) is ∙ ap (λ (c : CallerState). c.pinned) (here w.caller n new n refl);
      pin = λ m other. ap (λ (v : World). (v.caller m).pinned) is ∙ ap (λ (c : CallerState). c.pinned) (there w.caller n new m other);
      claim_now = ap (λ (v : World). (v.caller n).claim) is ∙ ap (λ (c : CallerState). c.claim) (here w.caller n new n refl);
      claim = λ m other. ap (λ (v : World). (v.caller m).claim) is ∙ ap (λ (c : CallerState). c.claim) (there w.caller n new m other);
      quits = given;
      ready = λ j ready. stays_ready j ready;
    }
  where
    stays_ready : (j : ℕ) → is_ready_state ((world_of s).slot (length (world_of s).log) j).state ≡ true
        → is_ready_state ((world_of t).slot (length (world_of s).log) j).state ≡ true
    stays_ready j ready =
        let w : World = world_of s in
        let x : World = with_slot (with_caller w n (record (w.caller n) { claim = claim })) e i slot in
        let k : ℕ = length w.log in
        let live : is_live x k ≡ true = live_newest x k refl in
        let swept_is = ap (λ (v : World). is_ready_state (v.slot k j).state) is
        ∙ ap (λ b. is_ready_state (if b then x.slot k j else fresh).state) live in
        ⊎_elim
        (λ (same : (k ≡ e) × (j ≡ i)).
        absurd (no_both (is_ready_state (w.slot k j).state) ready (ap (λ (d : ℕ × ℕ). is_ready_state (w.slot d.0 d.1).state) (λ l. (same.0 l, same.1 l)) ∙ unready)))
        (λ (other : (with_slot w e i slot).slot k j ≡ w.slot k j).
        swept_is ∙ ap (λ (s : Slot (Unit {0})). is_ready_state s.state) other ∙ ready)
        (both_cases w.slot e i slot k j)

asked_idle : (w : World) (n e i : ℕ) (s : State (Unit {0})) → told_as.Claimed ≡ (asked_row w n e i s).0
    → ((asked_row w n e i s).1 ≡ with_slot (with_caller w n (record (w.caller n) { claim = Some (e, i) })) e i (claimed (w.slot e i)))
    × (is_ready_state s ≡ false)
asked_idle w n e i state.Idle told = (refl, refl)
asked_idle w n e i state.Claimed told = cc
asked_idle w n e i (state.Ready plan) told = cc

-- a caller claims a message of the edition that it has pinned
pub claims : (s t : Stored) (n e i : ℕ) → ((world_of s).caller n).pinned ≡ Some e → Step (world_of s) (Ask n i) told_as.Claimed (world_of t)
    → t.given ≡ s.given → Changes n (Some e) (Some (e, i)) 0 (account_of s) (account_of t)
claims s t n e i pin step given =
    let w : World = world_of s in
    let answers : told_as.Claimed ≡ (asked_row w n e i (w.slot e i).state).0 = step.answers ∙ ap (λ o. (ask_row w n i o).0) pin in
    let idle = asked_idle w n e i (w.slot e i).state answers in
    let is = step.changes ∙ ap (λ o. swept (ask_row w n i o).1) pin ∙ ap swept idle.0 in
    subst (λ (o : Option ℕ). Changes n o (Some (e, i)) 0 (account_of s) (account_of t)) pin
    (claim_changes s t n e i (Some (e, i)) (claimed (w.slot e i)) 0 is idle.1 (omega (arith, given)))

claimed_unready : (s : State (Unit {0})) → s ≡ state.Claimed → is_ready_state s ≡ false
claimed_unready s is = ap is_ready_state is

-- the claimed message is ready
pub finishes : (s t : Stored) (n : ℕ) (spent : ℕ × ℕ) (told : Told) → Valid (world_of s) → ((world_of s).caller n).claim ≡ Some spent
    → Step (world_of s) (Done n) told (world_of t) → t.given ≡ s.given
    → Changes n ((world_of s).caller n).pinned None 0 (account_of s) (account_of t)
finishes s t n spent told valid claim step given =
    let w : World = world_of s in
    let held = valid.claims.entry n spent.0 spent.1 claim in
    claim_changes s t n spent.0 spent.1 None (done (w.slot spent.0 spent.1) tt) 0 (step.changes ∙ ap (λ o. swept (done_row w n o).1) claim)
    (claimed_unready (w.slot spent.0 spent.1).state held.1) (omega (arith, given))

-- its ticket is given back
pub gives_back : (s t : Stored) (n : ℕ) (ticket : ℕ × ℕ) (told : Told) → Valid (world_of s) → ((world_of s).caller n).claim ≡ Some ticket
    → Step (world_of s) (Quit n) told (world_of t) → t.given ≤ s.given + 1
    → Changes n ((world_of s).caller n).pinned None 1 (account_of s) (account_of t)
gives_back s t n ticket told valid claim step given =
    let w : World = world_of s in
    let held = valid.claims.entry n ticket.0 ticket.1 claim in
    claim_changes s t n ticket.0 ticket.1 None (quit (w.slot ticket.0 ticket.1)) 1 (step.changes ∙ ap (λ o. swept (quit_row w n o).1) claim)
    (claimed_unready (w.slot ticket.0 ticket.1).state held.1) given

-- the message is ready, and its plan is shared
pub got_ready : (s : Stored) (n e i : ℕ) (plan mine : Arc Plan Global) → HasPlans s.board → plan_at s.board e i ≡ Some plan
    → arc_value mine ≡ arc_value plan → GetsOf n e i s s (got.Ready mine)
got_ready s n e i plan mine plans is same = (
  (refl, refl),
  subst (IsPlanAt (edition_of (world_of s).log e) i) (sym same) (plans e i plan is),
  ready_with (slot_of s.board.flights e i).state is,
)
  where
    ready_with : (state : State (Arc Plan Global)) → plan_of state ≡ Some plan → is_ready_state (blank_state state) ≡ true
    ready_with state.Idle is = cc
    ready_with state.Claimed is = cc
    ready_with (state.Ready made) is = refl

-- the message is claimed, and here is its ticket
pub got_claimed : (s t : Stored) (n e i : ℕ) (ticket : ℕ × ℕ) → ((world_of s).caller n).pinned ≡ Some e
    → Step (world_of s) (Ask n i) told_as.Claimed (world_of t) → t.given ≡ s.given → ((world_of t).caller n).claim ≡ Some ticket
    → GetsOf n e i s t (got.Claimed ticket)
got_claimed s t n e i ticket pin step given claim =
    let changes = claims s t n e i pin step given in (
      one_claim ticket (e, i) (sym claim ∙ changes.claim_now),
      record { event = Ask n i; told = told_as.Claimed; step = step },
      changes,
    )
  where
    one_claim : (a b : ℕ × ℕ) → Some a ≡ Some b → a ≡ b
    one_claim a b is = cc

asked_busy : (w : World) (n e i : ℕ) (s : State (Unit {0})) → told_as.Busy ≡ (asked_row w n e i s).0 → (asked_row w n e i s).1 ≡ w
asked_busy w n e i state.Idle told = cc
asked_busy w n e i state.Claimed told = refl
asked_busy w n e i (state.Ready plan) told = cc

-- another caller has claimed it
pub found_busy : (s t : Stored) (n e i : ℕ) → Valid (world_of s) → ((world_of s).caller n).pinned ≡ Some e
    → Step (world_of s) (Ask n i) told_as.Busy (world_of t) → t.given ≡ s.given → Stands s t
found_busy s t n e i valid pin step given =
    let w : World = world_of s in
    let answers : told_as.Busy ≡ (asked_row w n e i (w.slot e i).state).0 = step.answers ∙ ap (λ o. (ask_row w n i o).0) pin in
    let busy = asked_busy w n e i (w.slot e i).state answers in
    let is = step.changes ∙ ap (λ o. swept (ask_row w n i o).1) pin ∙ ap swept busy in
    (is ∙ sym (nothing_world w w valid refl), given)

-- starts are quits, and one more at most for each message, and at least for each that is ready
starts_between : (slots : ℕ → Slot (Unit {0})) (n : ℕ)
    → (sum_below (λ i. (slots i).quits) n + sum_below (λ i. one_if (is_ready_state (slots i).state)) n ≤ sum_below (λ i. starts_of (slots i)) n)
    × (sum_below (λ i. starts_of (slots i)) n ≤ sum_below (λ i. (slots i).quits) n + n)
starts_between slots zero = (omega arith, omega arith)
starts_between slots (suc n) =
    let before = starts_between slots n in
    let here = taken_between (slots n).state in
    (let a = before.0 in let b = here.0 in omega arith, let a = before.1 in let b = here.1 in omega arith)
  where
    taken_between : (s : State (Unit {0})) → (one_if (is_ready_state s) ≤ taken s) × (taken s ≤ 1)
    taken_between state.Idle = (omega arith, omega arith)
    taken_between state.Claimed = (omega arith, omega arith)
    taken_between (state.Ready plan) = (omega arith, omega arith)

below_or_not : (k n : ℕ) → (k ≤ n) ⊎ (n < k)
below_or_not k n = grind arith

-- the counts of the newest edition
pub counts : (board : Board (Arc Plan Global)) (newest_one : Arc EditionState Global) (given : ℕ) (stat : Stat) → IsStore board newest_one given
    → stat.edition ≡ length board.log → stat.quits < 2 ^ 64 → IsSum (λ i. starts_of ((board_world board).slot stat.edition i)) stat.starts
    → IsSum (λ i. ((board_world board).slot stat.edition i).quits) stat.quits → IsCount stat (record { board = board; given = given })
counts board newest_one given stat store edition small starts quits =
    let w : World = board_world board in
    let k : ℕ = length board.log in
    let n : ℕ = length (newest_edition board.log).items in
    let items : length (edition_of board.log k).items ≡ n = ap (λ (e : EditionState). length e.items) (newest board.log) in
    let beyond : (i : ℕ) → n ≤ i → w.slot k i ≡ fresh = λ i from. store.kept.valid.inside k i (omega (arith, from, items)) in
    let s = sum_to (λ i. starts_of (w.slot k i)) stat.starts n
    (subst (λ e. IsSum (λ i. starts_of (w.slot e i)) stat.starts) edition starts) (λ i from. ap starts_of (beyond i from)) in
    let q = sum_to (λ i. (w.slot k i).quits) stat.quits n
    (subst (λ e. IsSum (λ i. (w.slot e i).quits) stat.quits) edition quits)
    (λ i from. ap (λ (slot : Slot (Unit {0})). slot.quits) (beyond i from)) in
    let between = starts_between (λ i. w.slot k i) n in
    let all = ap (sum_below (λ i. (w.slot k i).quits)) items in
    record {
      edition_is = edition;
      given = ⊎_elim
          (λ (many : 2 ^ 64 ≤ given + 1). omega (arith, many, small))
          (λ (few : given + 1 < 2 ^ 64). let h = store.quits few k (omega arith) in omega arith)
          (below_or_not (2 ^ 64) (given + 1));
      small = small;
      least = (let b = between.0 in omega arith);
      most = (let b = between.1 in omega arith);
    }
