-- What the compilations of the newest edition's messages say at the desk.
use Rattle.std.proofs.Common.{◌≡◌, ◌∙◌, ℕ, ◌+◌, ◌<◌, ◌||◌, List, [], ◌∷◌, length, refl, ap, sym, arith}
use Rattle.mf_edition.specs.Edition.{newest_edition, EditionState}
use Rattle.mf_edition.specs.declared.change.Entry.{Entry}
use Rattle.mf_flight.proofs.Sums.{moved, same_below}
use Rattle.mf_flight.specs.Flights.{slot_of}
use Rattle.mf_flight.specs.Slots.{fresh, starts_of}
use Rattle.mf_flight.specs.Sums.{IsSum}
use Rattle.mf_flight.specs.declared.flights.Flights.{Flights}
use Rattle.mf_flight.specs.declared.slot.Slot.{Slot}
use Rattle.mf_plan.specs.declared.plan.Plan.{Plan}
use Rattle.mf_transcript.specs.Served.{count_among}
use Rattle.mf_hub.specs.Desks.{is_among, Forgoes, Gains}
use Rattle.mf_hub.specs.Kept.{desk_of, is_ready_state, quits_in, ready_in, slot, AreOf, Finds, Misses}
use Rattle.mf_hub.proofs.Ready.{none_pass, passing_all, passing_count, starts_split, sum_none, sum_to}

-- a message is among the ready ones where its entry is ready
ready_is : {P : Type 0} (plan_in : P → Plan) (edition : EditionState) (flights : Flights P) → AreOf plan_in edition flights
    → (i : ℕ) → is_among (ready_in edition flights) i ≡ is_ready_state (slot edition flights i).state
ready_is {P} plan_in edition flights are =
    passing_all (λ i. is_ready_state (slot edition flights i).state) (length edition.items)
    (λ i from. ap (λ (s : Slot P). is_ready_state s.state) (are.beyond i from))

module _ {P : Type 0} (plan_in : P → Plan) (log : List Entry) (old new : Flights P) (index : ℕ)
    (were : AreOf plan_in (newest_edition log) old) (are : AreOf plan_in (newest_edition log) new) where
  abbrev edition : EditionState
  edition = newest_edition log

  pub gains : Finds (newest_edition log) old index new → Gains (desk_of log old) (index ∷ []) (desk_of log new)
  gains found = record {
    log = refl;
    quits = same_below (λ i. (slot edition old i).quits) (λ i. (slot edition new i).quits) (length edition.items) (λ i less. found.quits i);
    ready = λ i. ready_is plan_in edition new are i ∙ found.ready i ∙ ap (λ b. b || is_among (index ∷ []) i) (sym (ready_is plan_in edition old were i));
  }

  pub forgoes : index < length (newest_edition log).items → Misses (newest_edition log) old index new
      → Forgoes (desk_of log old) (index ∷ []) (desk_of log new)
  forgoes inside missed =
      let sums = moved (λ i. (slot edition old i).quits) (λ i. (slot edition new i).quits) index (length edition.items) inside (λ i other. missed.quits i other) in
      record {
        log = refl;
        least = omega (arith, sums, missed.least);
        most = omega (arith, sums, missed.most);
        kept = λ i ready. ready_is plan_in edition new are i ∙ missed.kept i (sym (ready_is plan_in edition old were i) ∙ ready);
        new = λ i ready.
            ap (λ b. b || is_among (index ∷ []) i) (ready_is plan_in edition old were i) ∙ missed.new i (sym (ready_is plan_in edition new are i) ∙ ready);
      }

-- where no entry was asked for, no message is ready, and there are no quits
pub fresh_desk : {P : Type 0} (log : List Entry) (flights : Flights P) → ((e i : ℕ) → slot_of flights e i ≡ fresh)
    → desk_of log flights ≡ record { log = log; ready = []; quits = 0 }
fresh_desk {P} log flights all =
    let edition = newest_edition log in
    let none : ready_in edition flights ≡ [] =
    none_pass (λ i. is_ready_state (slot edition flights i).state) (length edition.items) (λ i. ap (λ (s : Slot P). is_ready_state s.state) (all edition.number i)) in
    let zero_quits : quits_in edition flights ≡ 0 =
    sum_none (λ i. (slot edition flights i).quits) (length edition.items) (λ i. ap (λ (s : Slot P). s.quits) (all edition.number i)) in
    λ i. record { log = log; ready = none i; quits = zero_quits i }

module _ {P : Type 0} (plan_in : P → Plan) (log : List Entry) (flights : Flights P) (are : AreOf plan_in (newest_edition log) flights) where
  pub quits_are : (total : ℕ) → IsSum (λ i. (slot (newest_edition log) flights i).quits) total → total ≡ (desk_of log flights).quits
  quits_are total sum =
      sum_to (λ i. (slot (newest_edition log) flights i).quits) total (length (newest_edition log).items) sum
      (λ i from. ap (λ (s : Slot P). s.quits) (are.beyond i from))

  pub starts_are : (total : ℕ) → IsSum (λ i. starts_of (slot (newest_edition log) flights i)) total
      → total ≡ (desk_of log flights).quits + count_among (desk_of log flights).ready (length (newest_edition log).items)
  starts_are total sum =
      let n = length (newest_edition log).items in
      let slots : ℕ → Slot P = slot (newest_edition log) flights in
      sum_to (λ i. starts_of (slots i)) total n sum (λ i from. ap starts_of (are.beyond i from))
      ∙ starts_split slots n are.unclaimed
      ∙ ap (λ m. quits_in (newest_edition log) flights + m) (sym (passing_count (λ i. is_ready_state (slots i).state) n))
