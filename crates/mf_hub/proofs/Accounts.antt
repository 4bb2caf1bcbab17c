-- What the core's steps are to the rule of a turn.
use Rattle.std.proofs.Common.{◌≡◌, ◌∙◌, ℕ, ◌+◌, ◌≤◌, ◌<◌, List, [], ◌∷◌, ◌++◌, length, length-append, Bool, true, false, Option, Some, None, ⊎_elim, refl, ap, sym, subst, arith}
use Rattle.std.specs.Prelude.{◌==◌, ◌&&◌, not, if◌then◌else◌}
use Rattle.std.proofs.lemmas.Bool.{eq-eqb, ne_eqb}
use Rattle.std.specs.declared.alloc.Global.{Global}
use Rattle.std.specs.declared.sync.Arc.{Arc}
use Rattle.mf_core.specs.declared.board.Board.{Board}
use Rattle.mf_core.specs.declared.caller.CallerState.{CallerState}
use Rattle.mf_core.specs.declared.event.Event.TheVariants.{Join, Leave, Pin, Publish, Unpin}
use Rattle.mf_core.specs.declared.event.Told.{Told}
use Rattle.mf_core.specs.declared.event.Told.TheVariants.{Pinned}
use Rattle.mf_core.specs.Steps.{Step}
use Rattle.mf_core.specs.Valid.{Valid}
use Rattle.mf_core.specs.Worlds.{away, is_live, swept, with_caller, World}
use Rattle.mf_core.proofs.Pins.{live_cases, live_newest}
use Rattle.mf_core.proofs.Puts.{by_bool, here, part_stays, there}
use Rattle.mf_edition.specs.declared.change.Change.{Change}
use Rattle.mf_edition.specs.declared.change.Entry.{Entry}
use Rattle.mf_flight.specs.declared.slot.Slot.{Slot}
use Rattle.mf_flight.specs.Slots.{fresh}
use Rattle.mf_plan.specs.declared.plan.Plan.{Plan}
use Rattle.mf_transcript.specs.Steps.{next_entry}
use Rattle.mf_turn.specs.Account.{entries_by, Changes, IsAlike, IsNew, Joins, Leaves, Publishes}
use Rattle.mf_hub.specs.Kept.{is_ready_state}
use Rattle.mf_legal.specs.Calls.{made_by, one_if}
use Rattle.mf_turn.specs.Sums.{one_if as once_if}
use Rattle.mf_hub.proofs.Sums.{sum_most}
use Rattle.mf_hub.specs.Stores.{account_of, caller_of, others_below, world_of, IsFirstStore, Stands, Stored}

abbrev joined_of : CallerState → Bool
joined_of c = c.joined

abbrev pinned_of : CallerState → Option ℕ
pinned_of c = c.pinned

abbrev claim_of : CallerState → Option (ℕ × ℕ)
claim_of c = c.claim

abbrev pub stored : Board (Arc Plan Global) → ℕ → Stored
stored board given = record { board = board; given = given }

-- nothing changes
pub alike : (s t : Stored) → Stands s t → IsAlike (account_of s) (account_of t)
alike s t is = record {
  log = ap (λ (v : World). v.log) is.0;
  joined = ap (λ (v : World). v.next) is.0;
  present = λ n. ap (λ (v : World). (v.caller n).joined) is.0;
  pin = λ n. ap (λ (v : World). (v.caller n).pinned) is.0;
  claim = λ n. ap (λ (v : World). (v.caller n).claim) is.0;
  quits = omega (arith, is.1);
  ready = λ i ready. ap (λ (v : World). is_ready_state (v.slot (length (world_of s).log) i).state) is.0 ∙ ready;
}

-- that with which a hub begins
pub first_is_new : (s : Stored) → IsFirstStore s → IsNew (account_of s)
first_is_new s is = let same = is.world_is in record {
  log = ap (λ (v : World). v.log) same;
  joined = ap (λ (v : World). v.next) same;
  present = ap (λ (v : World). (v.caller 0).joined) same;
  pin = ap (λ (v : World). (v.caller 0).pinned) same;
  claim = ap (λ (v : World). (v.caller 0).claim) same;
  quits = is.given_is;
}

-- a live edition's entries stay
swept_ready : (w v : World) → v ≡ swept w → (e i : ℕ) → is_live w e ≡ true → is_ready_state (w.slot e i).state ≡ true
    → is_ready_state (v.slot e i).state ≡ true
swept_ready w v is e i live ready =
    ap (λ (x : World). is_ready_state (x.slot e i).state) is
    ∙ ap (λ b. is_ready_state (if b then w.slot e i else fresh).state) live ∙ ready

-- one caller's state changes, and nothing else
pub changes : (s t : Stored) (n : ℕ) (new : CallerState) → world_of t ≡ swept (with_caller (world_of s) n new) → t.given ≡ s.given
    → new.joined ≡ ((world_of s).caller n).joined → Changes n new.pinned new.claim 0 (account_of s) (account_of t)
changes s t n new is given joined =
    let w : World = world_of s in
    let x : World = with_caller w n new in
    record {
      log = ap (λ (v : World). v.log) is;
      joined = ap (λ (v : World). v.next) is;
      present = λ m. ap (λ (v : World). (v.caller m).joined) is ∙ part_stays joined_of w.caller n new joined m;
      pin_now = ap (λ (v : World). (v.caller n).pinned) is ∙ ap pinned_of (here w.caller n new n refl);
      pin = λ m other. ap (λ (v : World). (v.caller m).pinned) is ∙ ap pinned_of (there w.caller n new m other);
      claim_now = ap (λ (v : World). (v.caller n).claim) is ∙ ap claim_of (here w.caller n new n refl);
      claim = λ m other. ap (λ (v : World). (v.caller m).claim) is ∙ ap claim_of (there w.caller n new m other);
      quits = omega (arith, given);
      ready = λ i ready. swept_ready x (world_of t) is (length w.log) i (live_newest x (length w.log) refl) ready;
    }

-- a caller that isn't joined has no pin and no claim
pub joins : (s t : Stored) (n : ℕ) (told : Told) → n ≡ (world_of s).next → Step (world_of s) (Join n) told (world_of t) → t.given ≡ s.given
    → Joins (account_of s) (account_of t)
joins s t n told next step given =
    let w : World = world_of s in
    let new : CallerState = record away { joined = true; seen = length w.log } in
    let x : World = with_caller (record w { next = w.next + 1 }) n new in
    let is : world_of t ≡ swept x = step.changes in
    record {
      log = ap (λ (v : World). v.log) is;
      joined = ap (λ (v : World). v.next) is;
      present_now = ap (λ (v : World). (v.caller w.next).joined) is ∙ ap joined_of (here w.caller n new w.next (sym next));
      present = λ m other. ap (λ (v : World). (v.caller m).joined) is ∙ ap joined_of (there w.caller n new m (λ same. other (same ∙ next)));
      pin_now = ap (λ (v : World). (v.caller w.next).pinned) is ∙ ap pinned_of (here w.caller n new w.next (sym next));
      pin = λ m other. ap (λ (v : World). (v.caller m).pinned) is ∙ ap pinned_of (there w.caller n new m (λ same. other (same ∙ next)));
      claim_now = ap (λ (v : World). (v.caller w.next).claim) is ∙ ap claim_of (here w.caller n new w.next (sym next));
      claim = λ m other. ap (λ (v : World). (v.caller m).claim) is ∙ ap claim_of (there w.caller n new m (λ same. other (same ∙ next)));
      quits = omega (arith, given);
      ready = λ i ready. swept_ready x (world_of t) is (length w.log) i (live_newest x (length w.log) refl) ready;
    }

pub leaves : (s t : Stored) (n : ℕ) (told : Told) → Step (world_of s) (Leave n) told (world_of t) → t.given ≡ s.given
    → Leaves n (account_of s) (account_of t)
leaves s t n told step given =
    let w : World = world_of s in
    let x : World = with_caller w n away in
    let is : world_of t ≡ swept x = step.changes in
    record {
      log = ap (λ (v : World). v.log) is;
      joined = ap (λ (v : World). v.next) is;
      gone = ap (λ (v : World). (v.caller n).joined) is ∙ ap joined_of (here w.caller n away n refl);
      present = λ m other. ap (λ (v : World). (v.caller m).joined) is ∙ ap joined_of (there w.caller n away m other);
      pin = λ m other. ap (λ (v : World). (v.caller m).pinned) is ∙ ap pinned_of (there w.caller n away m other);
      claim = λ m other. ap (λ (v : World). (v.caller m).claim) is ∙ ap claim_of (there w.caller n away m other);
      quits = omega (arith, given);
      ready = λ i ready. swept_ready x (world_of t) is (length w.log) i (live_newest x (length w.log) refl) ready;
    }

-- no entry of an edition to come is anything but as nobody asked for it
pub unborn : (w : World) → Valid w → (e i : ℕ) → length w.log < e → w.slot e i ≡ fresh
unborn w v e i far = v.live e i (⊎_elim
    (λ (live : is_live w e ≡ true). absurd (⊎_elim (λ (newest : e ≡ length w.log). omega arith)
    (λ (t : (m : ℕ) × (m < w.next) × ((w.caller m).pinned ≡ Some e)). let a = v.seen.pin t.0 e t.2 in let b = v.seen.most t.0 in omega arith)
    (live_cases w e live)))
    (λ dead. dead) (by_bool (is_live w e)))

publishes : (s t : Stored) (n : ℕ) (change : Change) (told : Told) → Valid (world_of s) → Step (world_of s) (Publish n change) told (world_of t)
    → t.given ≡ s.given → Publishes (next_entry n ((world_of s).caller n).made change) (account_of s) (account_of t)
publishes s t n change told valid step given =
    let w : World = world_of s in
    let entry : Entry = next_entry n (w.caller n).made change in
    let new : CallerState = record (w.caller n) { made = (w.caller n).made + 1; seen = length w.log + 1 } in
    let x : World = with_caller (record w { log = w.log ++ entry ∷ [] }) n new in
    let is : world_of t ≡ swept x = step.changes in
    let log : (world_of t).log ≡ w.log ++ entry ∷ [] = ap (λ (v : World). v.log) is in
    let long = ap length log ∙ length-append w.log (entry ∷ []) in
    record {
      log = log;
      joined = ap (λ (v : World). v.next) is;
      present = λ m. ap (λ (v : World). (v.caller m).joined) is ∙ part_stays joined_of w.caller n new refl m;
      pin = λ m. ap (λ (v : World). (v.caller m).pinned) is ∙ part_stays pinned_of w.caller n new refl m;
      claim = λ m. ap (λ (v : World). (v.caller m).claim) is ∙ part_stays claim_of w.caller n new refl m;
      quits = omega (arith, given);
      unready = λ i. ap (λ (slot : Slot (Unit {0})). is_ready_state slot.state) (unborn w valid (length (world_of t).log) i (omega arith));
    }

-- a caller's entries, counted in two words
pub made_is : (n : ℕ) (log : List Entry) → made_by n log ≡ entries_by caller_of n log
made_is n [] = refl
made_is n (entry ∷ log) = let h = made_is n log in let o = ones (entry.caller == n) in omega arith
  where
    ones : (b : Bool) → one_if b ≡ once_if b
    ones true = refl
    ones false = refl

pub publishes_next : (s t : Stored) (n : ℕ) (change : Change) (told : Told) → Valid (world_of s) → ((world_of s).caller n).joined ≡ true
    → Step (world_of s) (Publish n change) told (world_of t) → t.given ≡ s.given
    → Publishes (next_entry n (entries_by caller_of n (world_of s).log) change) (account_of s) (account_of t)
publishes_next s t n change told valid joined step given =
    subst (λ (made : ℕ). Publishes (next_entry n made change) (account_of s) (account_of t))
    (valid.numbers.made_count n joined ∙ made_is n (world_of s).log) (publishes s t n change told valid step given)

-- a caller without a claim pins the newest edition
pub pins : (s t : Stored) (n k : ℕ) → Step (world_of s) (Pin n) (Pinned k) (world_of t) → t.given ≡ s.given → ((world_of s).caller n).claim ≡ None
    → Changes n (Some k) None 0 (account_of s) (account_of t)
pins s t n k step given free =
    let w : World = world_of s in
    let new : CallerState = record (w.caller n) { pinned = Some (length w.log); seen = length w.log } in
    let same : k ≡ length w.log = pinned_at k (length w.log) step.answers in
    subst (λ (p : Option ℕ × Option (ℕ × ℕ)). Changes n p.0 p.1 0 (account_of s) (account_of t)) (λ i. (ap Some (sym same) i, free i))
    (changes s t n new step.changes given refl)
  where
    pinned_at : (k m : ℕ) → Pinned k ≡ Pinned m → k ≡ m
    pinned_at k m is = cc

-- it ends its pin
pub unpins : (s t : Stored) (n : ℕ) (told : Told) → Step (world_of s) (Unpin n) told (world_of t) → t.given ≡ s.given → ((world_of s).caller n).claim ≡ None
    → Changes n None None 0 (account_of s) (account_of t)
unpins s t n told step given free =
    let w : World = world_of s in
    let new : CallerState = record (w.caller n) { pinned = None } in
    subst (λ (c : Option (ℕ × ℕ)). Changes n None c 0 (account_of s) (account_of t)) free (changes s t n new step.changes given refl)

module _ (w : World) (n k : ℕ) where
  -- whether a caller counts among the others
  pub counts_other : (k ≡ n → ⊥) → (w.caller k).joined ≡ true → one_if (not (k == n) && (w.caller k).joined) ≡ 1
  counts_other other joined = ap (λ b. one_if (not b && (w.caller k).joined)) (ne_eqb k n other) ∙ ap one_if joined

  pub skips_absent : (w.caller k).joined ≡ false → one_if (not (k == n) && (w.caller k).joined) ≡ 0
  skips_absent joined = ap (λ b. one_if (not (k == n) && b)) joined ∙ nothing (k == n)
    where
      nothing : (b : Bool) → one_if (not b && false) ≡ 0
      nothing true = refl
      nothing false = refl

  pub skips_own : k ≡ n → one_if (not (k == n) && (w.caller k).joined) ≡ 0
  skips_own same = ap (λ b. one_if (not b && (w.caller k).joined)) (eq-eqb k n same)

-- no more than there are numbers
pub others_most : (w : World) (n k : ℕ) → others_below w n k ≤ k
others_most w n k = sum_most (λ m. one_if (not (m == n) && (w.caller m).joined)) k (λ m l. at_most (not (m == n) && (w.caller m).joined))
  where
    at_most : (b : Bool) → one_if b ≤ 1
    at_most true = omega arith
    at_most false = omega arith
