-- What is kept beside a board is right after a step too.
use Rattle.std.proofs.Common.{◌≡◌, ◌∙◌, ◌⊎◌, ⊎_elim, ℕ, zero, suc, ◌+◌, ◌^◌, ◌<◌, ◌≤◌, List, [], ◌∷◌, ◌++◌, length, length-append, Bool, true, false, None, Some, refl, ap, sym, subst, arith}
use Rattle.std.proofs.lemmas.Bool.{cases_eq}
use Rattle.std.specs.Prelude.{if◌then◌else◌, min, Result, Ok, Err, IfOk, OnErr}
use Rattle.std.specs.declared.alloc.AllocError.{AllocError}
use Rattle.std.specs.Arc.{arc_value}
use Rattle.std.specs.declared.alloc.Global.{Global}
use Rattle.std.specs.declared.sync.Arc.{Arc}
use Rattle.mf_core.specs.declared.board.Board.{Board}
use Rattle.mf_core.specs.declared.caller.CallerState.{CallerState}
use Rattle.mf_core.specs.Boards.{told_asked}
use Rattle.mf_core.specs.Kept.{blank_state, board_world, plan_at, Does, GainsPlan, IsKept, KeepsPlans}
use Rattle.mf_core.specs.Steps.{ask_row, asked_row, done_row, quit_row, row, Step}
use Rattle.mf_core.specs.declared.error.CoreError.{CoreError}
use Rattle.mf_core.specs.declared.event.Event.TheVariants.{Ask, Done, Join, Publish, Quit}
use Rattle.mf_core.specs.declared.event.Told.{Told}
use Rattle.mf_core.proofs.Events.{nothing_world}
use Rattle.mf_core.specs.Valid.{Valid}
use Rattle.mf_core.specs.Worlds.{is_live, swept, with_caller, with_slot, World}
use Rattle.mf_core.proofs.Puts.{both_cases, both_here}
use Rattle.mf_edition.specs.Edition.{edition_of, newest_edition, next_edition, EditionsFollow, EditionState, EditionsStay}
use Rattle.mf_edition.specs.declared.change.Change.{Change}
use Rattle.mf_edition.specs.declared.change.Entry.{Entry}
use Rattle.mf_flight.specs.Flights.{slot_of}
use Rattle.mf_flight.specs.Slots.{claimed, done, fresh, most_quits, plan_of, quit}
use Rattle.mf_flight.specs.declared.flights.Asked.{Asked}
use Rattle.mf_flight.specs.Sums.{sum_below}
use Rattle.mf_flight.specs.declared.slot.Slot.{Slot}
use Rattle.mf_flight.specs.declared.slot.State.{State}
use Rattle.mf_flight.specs.declared.slot.State.TheVariants.{Claimed, Idle, Ready}
use Rattle.mf_plan.specs.declared.plan.Plan.{Plan}
use Rattle.mf_hub.specs.Desks.{IsPlanAt}
use Rattle.mf_hub.specs.Stores.{quits_of, HasPlans, HasQuits, IsStore}
use Rattle.mf_hub.proofs.Accounts.{unborn}
use Rattle.mf_hub.proofs.Sums.{sum_fewer, sum_nothing}

-- a log goes on, and so its editions stay
abbrev pub Goes : List Entry → List Entry → Type 0
Goes log more = (length log ≤ length more) × ((e : ℕ) → e ≤ length log → edition_of more e ≡ edition_of log e)

pub goes_same : (log more : List Entry) → more ≡ log → Goes log more
goes_same log more is = (let h = ap length is in omega arith, λ e l. ap (λ (l : List Entry). edition_of l e) is)

pub goes_on : EditionsStay → (log more : List Entry) (entry : Entry) → more ≡ log ++ entry ∷ [] → Goes log more
goes_on stay log more entry is = (
  let h = ap length is ∙ length-append log (entry ∷ []) in omega arith,
  λ e l. ap (λ (l : List Entry). edition_of l e) is ∙ stay log (entry ∷ []) e l,
)

idle_none : {P : Type 0} (s : State P) (plan : P) → blank_state s ≡ Idle → plan_of s ≡ Some plan → ⊥
idle_none Idle plan idle is = cc
idle_none Claimed plan idle is = cc
idle_none (Ready made) plan idle is = cc

below_or_not : (k n : ℕ) → (k ≤ n) ⊎ (n < k)
below_or_not k n = grind arith

pub plans_stay : (old new : Board (Arc Plan Global)) → Valid (board_world old) → KeepsPlans old new → Goes old.log new.log → HasPlans old → HasPlans new
plans_stay old new valid keeps goes has e i plan is =
    let was = keeps e i plan is in
    ⊎_elim
    (λ (l : e ≤ length old.log). subst (λ edition. IsPlanAt edition i (arc_value plan)) (sym (goes.1 e l)) (has e i plan was))
    (λ (far : length old.log < e).
    absurd (idle_none (slot_of old.flights e i).state plan (ap (λ (s : Slot (Unit {0})). s.state) (unborn (board_world old) valid e i far)) was))
    (below_or_not e (length old.log))

fewer : (b : Bool) (s : Slot (Unit {0})) → (if b then s else fresh).quits ≤ s.quits
fewer true s = omega arith
fewer false s = omega arith

-- the quits of a step by which entries may go and none changes
pub quits_stay : (w x v : World) (given : ℕ) → Valid w → v ≡ swept x → x.slot ≡ w.slot → Goes w.log v.log → HasQuits w given → HasQuits v given
quits_stay w x v given valid is slots goes has few e l = ⊎_elim
    (λ (old : e ≤ length w.log).
    let h = has few e old in
    let a = sum_fewer (λ i. (w.slot e i).quits) (λ i. (v.slot e i).quits) (length (edition_of v.log e).items) (λ i. less e i) in
    let b = ap (λ edition. sum_below (λ i. (w.slot e i).quits) (length edition.items)) (goes.1 e old) in
    omega arith)
    (λ (far : length w.log < e).
    let a = sum_nothing (λ i. (v.slot e i).quits) (length (edition_of v.log e).items)
    (λ i. let h = less e i in let z = ap (λ (s : Slot (Unit {0})). s.quits) (unborn w valid e i far) in omega arith) in
    omega arith)
    (below_or_not e (length w.log))
  where
    less : (e i : ℕ) → (v.slot e i).quits ≤ (w.slot e i).quits
    less e i =
        let a = ap (λ (u : World). (u.slot e i).quits) is in
        let b = fewer (is_live x e) (x.slot e i) in
        let c = ap (λ (f : ℕ → ℕ → Slot (Unit {0})). (f e i).quits) slots in
        omega arith

-- a step by which the log stays, and entries may go and none changes
pub stored_still : (old new : Board (Arc Plan Global)) (newest : Arc EditionState Global) (given : ℕ) → IsStore old newest given → IsKept new → KeepsPlans old new
    → (x : World) → board_world new ≡ swept x → x.slot ≡ (board_world old).slot → x.log ≡ old.log → IsStore new newest given
stored_still old new newest given store kept keeps x is slots same =
    let log : new.log ≡ old.log = ap (λ (v : World). v.log) is ∙ same in
    let goes = goes_same old.log new.log log in
    record {
      kept = kept;
      newest_is = store.newest_is ∙ ap newest_edition (sym log);
      plans = plans_stay old new store.kept.valid keeps goes store.plans;
      quits = quits_stay (board_world old) x (board_world new) given store.kept.valid is slots goes store.quits;
    }

-- nothing happens
pub stored_same : (old new : Board (Arc Plan Global)) (newest : Arc EditionState Global) (given : ℕ) → IsStore old newest given → IsKept new → KeepsPlans old new
    → board_world new ≡ board_world old → IsStore new newest given
stored_same old new newest given store kept keeps same = stored_still old new newest given store kept keeps (board_world old)
    (nothing_world (board_world old) (board_world new) store.kept.valid same) refl refl

-- a caller joins, or doesn't
pub stored_joined : (old new : Board (Arc Plan Global)) (newest : Arc EditionState Global) (given n : ℕ) (result : Result Told CoreError) → IsStore old newest given → IsKept new
    → KeepsPlans old new → Does (board_world old) (Join n) result (board_world new) → IsStore new newest given
stored_joined old new newest given n (Ok told) store kept keeps does = stored_still old new newest given store kept keeps
    (row (board_world old) (Join n)).1 does.changes refl refl
stored_joined old new newest given n (Err error) store kept keeps does = stored_same old new newest given store kept keeps does.1

-- an entry is made
pub stored_published : EditionsStay → EditionsFollow → (old new : Board (Arc Plan Global)) (newest edition : Arc EditionState Global) (given n : ℕ) (change : Change) (told : Told)
    → IsStore old newest given → IsKept new → KeepsPlans old new → Step (board_world old) (Publish n change) told (board_world new)
    → arc_value edition ≡ next_edition (newest_edition old.log) change → IsStore new edition given
stored_published stay follow old new newest edition given n change told store kept keeps step is =
    let entry : Entry = record { caller = n; nth = ((board_world old).caller n).made + 1; change = change } in
    let log : new.log ≡ old.log ++ entry ∷ [] = ap (λ (v : World). v.log) step.changes in
    let goes = goes_on stay old.log new.log entry log in
    record {
      kept = kept;
      newest_is = is ∙ sym (ap newest_edition log ∙ follow old.log entry);
      plans = plans_stay old new store.kept.valid keeps goes store.plans;
      quits = quits_stay (board_world old) (row (board_world old) (Publish n change)).1 (board_world new) given store.kept.valid step.changes refl goes
          store.quits;
    }

-- the sum of which one term grows
fewer_below : (f g : ℕ → ℕ) (n : ℕ) → ((j : ℕ) → j < n → g j ≤ f j) → sum_below g n ≤ sum_below f n
fewer_below f g zero less = omega arith
fewer_below f g (suc n) less =
    let h = fewer_below f g n (λ j l. less j (omega arith)) in let a = less n (omega arith) in omega arith

sum_grown : (f g : ℕ → ℕ) (k extra n : ℕ) → ((j : ℕ) → (j ≡ k → ⊥) → g j ≤ f j) → g k ≤ f k + extra → sum_below g n ≤ sum_below f n + extra
sum_grown f g k extra zero others here = omega arith
sum_grown f g k extra (suc n) others here = ⊎_elim
    (λ (same : n ≡ k).
    let h = fewer_below f g n (λ j l. others j (λ is. omega (arith, is, same, l))) in
    let a : g n ≡ g k = ap g same in let b : f n ≡ f k = ap f same in omega arith)
    (λ (other : n ≡ k → ⊥). let h = sum_grown f g k extra n others here in let a = others n other in omega arith)
    (cases_eq n k)

module _ (old new : Board (Arc Plan Global)) (newest : Arc EditionState Global) (given after n e i extra : ℕ) (caller : CallerState) (slot : Slot (Unit {0}))
    (store : IsStore old newest given) (kept : IsKept new)
    (is : board_world new ≡ swept (with_slot (with_caller (board_world old) n caller) e i slot))
    (more : slot.quits ≤ ((board_world old).slot e i).quits + extra) (counts : after + 1 < 2 ^ 64 → after ≡ given + extra) where
  abbrev w : World
  w = board_world old

  abbrev x : World
  x = with_slot (with_caller w n caller) e i slot

  log_same : new.log ≡ old.log
  log_same = ap (λ (v : World). v.log) is

  quits_in : (d : ℕ) → quits_of (board_world new) d ≤ quits_of (board_world old) d + extra
  quits_in d =
      let a = sum_grown (λ j. ((board_world old).slot d j).quits) (λ j. ((board_world new).slot d j).quits) i extra
      (length (edition_of old.log d).items) (λ j other. others j other) here in
      let b = ap (λ (log : List Entry). sum_below (λ j. ((board_world new).slot d j).quits) (length (edition_of log d).items)) log_same in
      omega arith
    where
      less : (j : ℕ) → ((board_world new).slot d j).quits ≤ (x.slot d j).quits
      less j =
          let a = ap (λ (u : World). (u.slot d j).quits) is in
          let b = fewer (is_live x d) (x.slot d j) in
          omega arith

      others : (j : ℕ) → (j ≡ i → ⊥) → ((board_world new).slot d j).quits ≤ (w.slot d j).quits
      others j other = ⊎_elim
          (λ (same : (d ≡ e) × (j ≡ i)). absurd (other same.1))
          (λ (same : x.slot d j ≡ w.slot d j). let a = less j in let b = ap (λ (s : Slot (Unit {0})). s.quits) same in omega arith)
          (both_cases w.slot e i slot d j)

      here : ((board_world new).slot d i).quits ≤ (w.slot d i).quits + extra
      here = ⊎_elim
          (λ (same : (d ≡ e) × (i ≡ i)).
          let a = less i in
          let b : (x.slot d i).quits ≡ slot.quits = ap (λ (s : Slot (Unit {0})). s.quits) (both_here w.slot e i slot d i same.0 refl) in
          let c : (w.slot d i).quits ≡ (w.slot e i).quits = ap (λ k. (w.slot k i).quits) same.0 in
          omega arith)
          (λ (same : x.slot d i ≡ w.slot d i). let a = less i in let b = ap (λ (s : Slot (Unit {0})). s.quits) same in omega arith)
          (both_cases w.slot e i slot d i)

  -- a step by which one entry changes
  pub stored_slot : HasPlans new → IsStore new newest after
  stored_slot plans = record {
    kept = kept;
    newest_is = store.newest_is ∙ ap newest_edition (sym log_same);
    plans = plans;
    quits = λ few d l.
        let a = counts few in
        let b = ap length log_same in
        let h = store.quits (omega arith) d (omega arith) in
        let q = quits_in d in
        omega arith;
  }

module _ (old new : Board (Arc Plan Global)) (newest : Arc EditionState Global) (given n e i : ℕ) (store : IsStore old newest given) (kept : IsKept new) where
  asked_by : KeepsPlans old new → (s : State (Unit {0})) → board_world new ≡ swept (asked_row (board_world old) n e i s).1 → IsStore new newest given
  asked_by keeps Idle is = stored_slot old new newest given given n e i 0 (record ((board_world old).caller n) { claim = Some (e, i) })
      (claimed ((board_world old).slot e i)) store kept is (omega arith) (λ few. omega arith)
      (plans_stay old new store.kept.valid keeps (goes_same old.log new.log (ap (λ (v : World). v.log) is)) store.plans)
  asked_by keeps Claimed is = stored_still old new newest given store kept keeps (board_world old) is refl refl
  asked_by keeps (Ready plan) is = stored_still old new newest given store kept keeps (board_world old) is refl refl

  -- a caller asks for a message
  pub stored_asked : KeepsPlans old new → ((board_world old).caller n).pinned ≡ Some e → (result : Result Asked AllocError)
      → IfOk result (λ asked. Step (board_world old) (Ask n i) (told_asked asked) (board_world new)) → OnErr result (board_world new ≡ board_world old)
      → IsStore new newest given
  stored_asked keeps pin (Ok asked) step same = asked_by keeps ((board_world old).slot e i).state
      (step.changes ∙ ap (λ o. swept (ask_row (board_world old) n i o).1) pin)
  stored_asked keeps pin (Err error) step same = stored_same old new newest given store kept keeps same

  -- the claimed message is ready
  pub stored_done : (plan : Arc Plan Global) (told : Told) → GainsPlan old new (e, i) plan → ((board_world old).caller n).claim ≡ Some (e, i)
      → Step (board_world old) (Done n) told (board_world new) → e ≤ length old.log → IsPlanAt (edition_of old.log e) i (arc_value plan)
      → IsStore new newest given
  stored_done plan told gains claim step within right =
      let is = step.changes ∙ ap (λ o. swept (done_row (board_world old) n o).1) claim in
      let log : new.log ≡ old.log = ap (λ (v : World). v.log) is in
      let goes = goes_same old.log new.log log in
      stored_slot old new newest given given n e i 0 (record ((board_world old).caller n) { claim = None })
      (done ((board_world old).slot e i) tt) store kept is (omega arith) (λ few. omega arith)
      (λ d j made ready. ⊎_elim
      (λ (was : plan_at old d j ≡ Some made). plans_stay_at log d j made was)
      (λ (new_one : (d ≡ e) × (j ≡ i) × (made ≡ plan)).
      subst (λ (z : ℕ × ℕ × Arc Plan Global). IsPlanAt (edition_of new.log z.0) z.1 (arc_value z.2))
      (λ k. (sym new_one.0 k, sym new_one.1 k, sym new_one.2 k))
      (subst (λ (log : List Entry). IsPlanAt (edition_of log e) i (arc_value plan)) (sym log) right))
      (gains d j made ready))
    where
      plans_stay_at : new.log ≡ old.log → (d j : ℕ) (made : Arc Plan Global) → plan_at old d j ≡ Some made
          → IsPlanAt (edition_of new.log d) j (arc_value made)
      plans_stay_at log d j made was =
          subst (λ (log : List Entry). IsPlanAt (edition_of log d) j (arc_value made)) (sym log) (store.plans d j made was)

  -- its ticket is given back
  pub stored_quit : (told : Told) (after : ℕ) → KeepsPlans old new → ((board_world old).caller n).claim ≡ Some (e, i)
      → Step (board_world old) (Quit n) told (board_world new) → (after + 1 < 2 ^ 64 → after ≡ given + 1) → IsStore new newest after
  stored_quit told after keeps claim step counts =
      let is = step.changes ∙ ap (λ o. swept (quit_row (board_world old) n o).1) claim in
      stored_slot old new newest given after n e i 1 (record ((board_world old).caller n) { claim = None })
      (quit ((board_world old).slot e i)) store kept is (fewest ((board_world old).slot e i).quits) counts
      (plans_stay old new store.kept.valid keeps (goes_same old.log new.log (ap (λ (v : World). v.log) is)) store.plans)
    where
      fewest : (q : ℕ) → min (q + 1) most_quits ≤ q + 1
      fewest q = grind arith

-- a claim is on a message of an edition that there is
pub claim_within : (board : Board (Arc Plan Global)) (n : ℕ) (claim : ℕ × ℕ) → Valid (board_world board)
    → ((board_world board).caller n).claim ≡ Some claim → claim.0 ≤ length board.log
claim_within board n claim valid is =
    let held = valid.claims.entry n claim.0 claim.1 is in
    let a = valid.seen.pin n claim.0 held.0 in
    let b = valid.seen.most n in
    omega arith
