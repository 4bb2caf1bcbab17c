-- The tickets beside a board are those of its claims, after each event.
use Rattle.std.proofs.Common.{◌≡◌, ◌∙◌, ℕ, zero, suc, ◌+◌, List, [], ◌∷◌, ◌++◌, length, true, Option, Some, None, ⊎_elim, refl, ap, sym, arith}
use Rattle.std.specs.Prelude.{◌||◌, not}
use Rattle.std.specs.Option.{is_some}
use Rattle.std.proofs.lemmas.Bool.{cases_eq}
use Rattle.mf_edition.specs.Edition.{newest_edition, next_edition, EditionsFollow}
use Rattle.mf_edition.specs.declared.change.Change.{Change}
use Rattle.mf_flight.specs.declared.slot.State.{State}
use Rattle.mf_flight.specs.declared.slot.State.TheVariants as state
use Rattle.mf_core.specs.declared.board.Board.{Board}
use Rattle.mf_core.specs.declared.caller.CallerState.{CallerState}
use Rattle.mf_core.specs.declared.event.Event.TheVariants.{Ask, Done, Join, Leave, Publish, Quit}
use Rattle.mf_core.specs.declared.event.Told.{Told}
use Rattle.mf_core.specs.declared.event.Told.TheVariants as told_as
use Rattle.mf_core.specs.declared.world.World.{World as Running}
use Rattle.mf_core.specs.Kept.{board_world, IsKept}
use Rattle.mf_core.specs.Running.{ticket_at, world_of, IsWhole, PutsTicket}
use Rattle.mf_core.specs.Steps.{asked_row, ask_row, done_row, quit_row, IsYours, Step}
use Rattle.mf_core.specs.Valid.{Valid}
use Rattle.mf_core.specs.Worlds.{away, World, swept, with_caller}
use Rattle.mf_core.proofs.Puts.{here, neither, part_stays, there}
use Rattle.mf_core.proofs.Steps.{no_some}

abbrev Held : World → List (Option (ℕ × ℕ)) → Type 0
Held w tickets = (n : ℕ) → ticket_at tickets n ≡ (w.caller n).claim

abbrev of_claim : CallerState → Option (ℕ × ℕ)
of_claim s = s.claim

-- the claims of a World in which one caller's state has changed
own_claims : (w v : World) (n : ℕ) (new : CallerState) → v ≡ swept (with_caller w n new) → new.claim ≡ (w.caller n).claim
    → (m : ℕ) → (v.caller m).claim ≡ (w.caller m).claim
own_claims w v n new is same m = ap (λ (x : World). (x.caller m).claim) is ∙ part_stays of_claim w.caller n new same m

module _ (old : Running) (board : Board (Unit {0})) (whole : IsWhole old) (kept : IsKept board) where
  -- nothing of the World has changed
  pub whole_same : board_world board ≡ world_of old → IsWhole (record { board = board; newest = old.newest; tickets = old.tickets })
  whole_same is = record {
    kept = kept;
    newest = whole.newest ∙ ap (λ (x : World). newest_edition x.log) (sym is);
    many = whole.many ∙ ap (λ (x : World). x.next) (sym is);
    tickets = λ n. whole.tickets n ∙ ap (λ (x : World). (x.caller n).claim) (sym is);
  }

  -- a caller's state has changed, but for its claim
  pub whole_own : (n : ℕ) (new : CallerState) → board_world board ≡ swept (with_caller (world_of old) n new)
      → new.claim ≡ ((world_of old).caller n).claim → IsWhole (record { board = board; newest = old.newest; tickets = old.tickets })
  whole_own n new is same = record {
    kept = kept;
    newest = whole.newest ∙ ap (λ (x : World). newest_edition x.log) (sym is);
    many = whole.many ∙ ap (λ (x : World). x.next) (sym is);
    tickets = λ m. whole.tickets m ∙ sym (own_claims (world_of old) (board_world board) n new is same m);
  }

-- who may leave has no claim
pub left_claim : (w : World) (n : ℕ) → IsYours w (Leave n) → None ≡ (w.caller n).claim
left_claim w n yours =
    let s : CallerState = w.caller n in
    let a = neither (not s.joined || is_some s.pinned) (is_some s.claim) yours in sym (no_some s.claim a.1)

-- what one caller's ticket puts
pub put_claims : (w v : World) (n : ℕ) (claim : Option (ℕ × ℕ)) (old new : List (Option (ℕ × ℕ))) → Held w old → PutsTicket old new n claim
    → (v.caller n).claim ≡ claim → ((m : ℕ) → (m ≡ n → ⊥) → (v.caller m).claim ≡ (w.caller m).claim) → Held v new
put_claims w v n claim old new held puts own others m = puts.tickets m ∙ ⊎_elim
    (λ (same : m ≡ n). here (ticket_at old) n claim m same ∙ sym own ∙ ap (λ k. (v.caller k).claim) (sym same))
    (λ (other : m ≡ n → ⊥). there (ticket_at old) n claim m other ∙ held m ∙ sym (others m other))
    (cases_eq m n)

asked_others : (w : World) (n e i : ℕ) (s : State (Unit {0})) (m : ℕ) → (m ≡ n → ⊥)
    → ((asked_row w n e i s).1.caller m).claim ≡ (w.caller m).claim
asked_others w n e i state.Idle m other = ap of_claim (there w.caller n (record (w.caller n) { claim = Some (e, i) }) m other)
asked_others w n e i state.Claimed m other = refl
asked_others w n e i (state.Ready plan) m other = refl

ask_others : (w : World) (n i : ℕ) (o : Option ℕ) (m : ℕ) → (m ≡ n → ⊥) → ((ask_row w n i o).1.caller m).claim ≡ (w.caller m).claim
ask_others w n i None m other = refl
ask_others w n i (Some e) m other = asked_others w n e i (w.slot e i).state m other

-- an ask leaves the other claims
pub ask_leaves : (w v : World) (n i : ℕ) (told : Told) → Step w (Ask n i) told v → (m : ℕ) → (m ≡ n → ⊥) → (v.caller m).claim ≡ (w.caller m).claim
ask_leaves w v n i told step m other =
    ap (λ (x : World). (x.caller m).claim) step.changes ∙ ask_others w n i (w.caller n).pinned m other

asked_same : (w : World) (n e i : ℕ) (s : State (Unit {0})) → ((asked_row w n e i s).0 ≡ told_as.Claimed → ⊥) → (asked_row w n e i s).1 ≡ w
asked_same w n e i state.Idle other = absurd (other refl)
asked_same w n e i state.Claimed other = refl
asked_same w n e i (state.Ready plan) other = refl

ask_same : (w : World) (n i : ℕ) (o : Option ℕ) → ((ask_row w n i o).0 ≡ told_as.Claimed → ⊥) → (ask_row w n i o).1 ≡ w
ask_same w n i None other = refl
ask_same w n i (Some e) other = asked_same w n e i (w.slot e i).state other

-- one that claims nothing leaves the World but for what is swept
pub ask_keeps : (w v : World) (n i : ℕ) (told : Told) → Step w (Ask n i) told v → (told ≡ told_as.Claimed → ⊥) → v ≡ swept w
ask_keeps w v n i told step other = step.changes ∙ ap swept (ask_same w n i (w.caller n).pinned (λ is. other (step.answers ∙ is)))

pub busy_claims_nothing : told_as.Busy ≡ told_as.Claimed → ⊥
busy_claims_nothing is = cc

pub ready_claims_nothing : told_as.Ready ≡ told_as.Claimed → ⊥
ready_claims_nothing is = cc

-- what ends a claim
done_claims : (w : World) (n : ℕ) (o : Option (ℕ × ℕ)) → (w.caller n).claim ≡ o
    → (((done_row w n o).1.caller n).claim ≡ None) × ((m : ℕ) → (m ≡ n → ⊥) → ((done_row w n o).1.caller m).claim ≡ (w.caller m).claim)
done_claims w n None is = (is, λ m other. refl)
done_claims w n (Some (e, i)) is = (
  ap of_claim (here w.caller n (record (w.caller n) { claim = None }) n refl),
  λ m other. ap of_claim (there w.caller n (record (w.caller n) { claim = None }) m other),
)

pub done_ends : (w v : World) (n : ℕ) (told : Told) → Step w (Done n) told v
    → ((v.caller n).claim ≡ None) × ((m : ℕ) → (m ≡ n → ⊥) → (v.caller m).claim ≡ (w.caller m).claim)
done_ends w v n told step = let t = done_claims w n (w.caller n).claim refl in (
  ap (λ (x : World). (x.caller n).claim) step.changes ∙ t.0,
  λ m other. ap (λ (x : World). (x.caller m).claim) step.changes ∙ t.1 m other,
)

quit_claims : (w : World) (n : ℕ) (o : Option (ℕ × ℕ)) → (w.caller n).claim ≡ o
    → (((quit_row w n o).1.caller n).claim ≡ None) × ((m : ℕ) → (m ≡ n → ⊥) → ((quit_row w n o).1.caller m).claim ≡ (w.caller m).claim)
quit_claims w n None is = (is, λ m other. refl)
quit_claims w n (Some (e, i)) is = (
  ap of_claim (here w.caller n (record (w.caller n) { claim = None }) n refl),
  λ m other. ap of_claim (there w.caller n (record (w.caller n) { claim = None }) m other),
)

pub quit_ends : (w v : World) (n : ℕ) (told : Told) → Step w (Quit n) told v
    → ((v.caller n).claim ≡ None) × ((m : ℕ) → (m ≡ n → ⊥) → (v.caller m).claim ≡ (w.caller m).claim)
quit_ends w v n told step = let t = quit_claims w n (w.caller n).claim refl in (
  ap (λ (x : World). (x.caller n).claim) step.changes ∙ t.0,
  λ m other. ap (λ (x : World). (x.caller m).claim) step.changes ∙ t.1 m other,
)

-- the log and the callers' number after rows that leave them
done_leaves : (w : World) (n : ℕ) (o : Option (ℕ × ℕ)) → ((done_row w n o).1.log ≡ w.log) × ((done_row w n o).1.next ≡ w.next)
done_leaves w n None = (refl, refl)
done_leaves w n (Some (e, i)) = (refl, refl)

quit_leaves : (w : World) (n : ℕ) (o : Option (ℕ × ℕ)) → ((quit_row w n o).1.log ≡ w.log) × ((quit_row w n o).1.next ≡ w.next)
quit_leaves w n None = (refl, refl)
quit_leaves w n (Some (e, i)) = (refl, refl)

asked_leaves : (w : World) (n e i : ℕ) (s : State (Unit {0})) → ((asked_row w n e i s).1.log ≡ w.log) × ((asked_row w n e i s).1.next ≡ w.next)
asked_leaves w n e i state.Idle = (refl, refl)
asked_leaves w n e i state.Claimed = (refl, refl)
asked_leaves w n e i (state.Ready plan) = (refl, refl)

ask_row_leaves : (w : World) (n i : ℕ) (o : Option ℕ) → ((ask_row w n i o).1.log ≡ w.log) × ((ask_row w n i o).1.next ≡ w.next)
ask_row_leaves w n i None = (refl, refl)
ask_row_leaves w n i (Some e) = asked_leaves w n e i (w.slot e i).state

abbrev pub Stays : World → World → Type 0
Stays w v = (v.log ≡ w.log) × (v.next ≡ w.next)

pub done_stays : (w v : World) (n : ℕ) (told : Told) → Step w (Done n) told v → Stays w v
done_stays w v n told step = let t = done_leaves w n (w.caller n).claim in
    (ap (λ (x : World). x.log) step.changes ∙ t.0, ap (λ (x : World). x.next) step.changes ∙ t.1)

pub quit_stays : (w v : World) (n : ℕ) (told : Told) → Step w (Quit n) told v → Stays w v
quit_stays w v n told step = let t = quit_leaves w n (w.caller n).claim in
    (ap (λ (x : World). x.log) step.changes ∙ t.0, ap (λ (x : World). x.next) step.changes ∙ t.1)

pub ask_stays : (w v : World) (n i : ℕ) (told : Told) → Step w (Ask n i) told v → Stays w v
ask_stays w v n i told step = let t = ask_row_leaves w n i (w.caller n).pinned in
    (ap (λ (x : World). x.log) step.changes ∙ t.0, ap (λ (x : World). x.next) step.changes ∙ t.1)

-- one more caller, without a claim and a ticket
ticket_pushed : (tickets : List (Option (ℕ × ℕ))) (n : ℕ) → ticket_at (tickets ++ None ∷ []) n ≡ ticket_at tickets n
ticket_pushed [] zero = refl
ticket_pushed [] (suc n) = refl
ticket_pushed (t ∷ tickets) zero = refl
ticket_pushed (t ∷ tickets) (suc n) = ticket_pushed tickets n

pub joined_tickets : (w v : World) (n : ℕ) (told : Told) (old new : List (Option (ℕ × ℕ))) → Valid w → IsYours w (Join n) → n ≡ w.next → Step w (Join n) told v
    → Held w old → new ≡ old ++ None ∷ [] → Held v new
joined_tickets w v n told old new valid yours next step held is m =
    let now : CallerState = record away { joined = true; seen = length w.log } in
    let gone : w.caller n ≡ away = valid.left n (valid.numbers.later n (omega arith)) in
    ap (λ (l : List (Option (ℕ × ℕ))). ticket_at l m) is ∙ ticket_pushed old m ∙ held m
    ∙ sym (part_stays of_claim w.caller n now (sym (ap of_claim gone)) m)
    ∙ ap (λ (x : World). (x.caller m).claim) (sym step.changes)

-- a publication makes the edition that is kept
pub published_newest : (w v : World) (n : ℕ) (change : Change) (told : Told) → EditionsFollow → Step w (Publish n change) told v
    → next_edition (newest_edition w.log) change ≡ newest_edition v.log
published_newest w v n change told follow step =
    sym (follow w.log (record { caller = n; nth = (w.caller n).made + 1; change = change }))
    ∙ ap (λ (x : World). newest_edition x.log) (sym step.changes)
