-- The compilations of an edition's messages, of which one changes.
use Rattle.std.proofs.Common.{◌≡◌, ◌≢◌, ◌∙◌, ℕ, ◌+◌, ◌<◌, ◌≤◌, Bool, true, false, ◌||◌, ◌==◌, List, [], ◌∷◌, length, Some, None, if◌then◌else◌, inl, inr, ⊎_elim, refl, ap, sym, subst, arith}
use Rattle.std.proofs.lemmas.Bool.{cases_eq, eq-eqb, ne_eqb}
use Rattle.std.specs.Arc.{arc_value}
use Rattle.std.specs.Prelude.{◌&&◌, min, slice_get}
use Rattle.std.specs.declared.alloc.Global.{Global}
use Rattle.std.specs.declared.sync.Arc.{Arc}
use Rattle.mf_edition.specs.Items.{Item}
use Rattle.mf_edition.specs.Edition.{EditionState}
use Rattle.mf_flight.specs.Flights.{answer_to, slot_of, IsSame, Puts, Retires}
use Rattle.mf_flight.specs.Slots.{asked, done, fresh, most_quits, plan_of, quit}
use Rattle.mf_flight.specs.declared.flights.Asked.TheVariants as answers
use Rattle.mf_flight.specs.declared.flights.Flights.{Flights}
use Rattle.mf_flight.specs.declared.slot.Slot.{Slot}
use Rattle.mf_flight.specs.declared.slot.State.{State}
use Rattle.mf_flight.specs.declared.slot.State.TheVariants.{Claimed, Idle, Ready}
use Rattle.mf_plan.specs.Plans.{CompilesTo}
use Rattle.mf_plan.specs.declared.plan.Plan.{Plan}
use Rattle.mf_hub.specs.Desks.{is_among, IsPlanAt}
use Rattle.mf_hub.specs.Kept.{is_ready_state, slot, AreOf, Finds, Keeps, KeepsOrQuits, Misses}

-- an entry that is not claimed
abbrev IsFree : {P : Type 0} → State P → Type 0
IsFree state = state ≢ Claimed

-- an entry put in the place of one that was put
pub puts_again : {P : Type 0} (old mid new : Flights P) (e i : ℕ) (one other : Slot P) → Puts old mid e i one → Puts mid new e i other → Puts old new e i other
puts_again old mid new e i one other first second f j = second f j ∙ by ((f == e) && (j == i)) (first f j)
  where
    by : (b : Bool) → slot_of mid f j ≡ (if b then one else slot_of old f j) → (if b then other else slot_of mid f j) ≡ (if b then other else slot_of old f j)
    by true is = refl
    by false is = is

-- an entry that is neither ready nor claimed is idle
pub idle_is : {P : Type 0} (state : State P) → plan_of state ≡ None → state ≢ Claimed → state ≡ Idle
idle_is Idle none free = refl
idle_is Claimed none free = absurd (free refl)
idle_is (Ready plan) none free = absurd (some_none none)
  where
    some_none : Some plan ≡ None → ⊥
    some_none is = cc

idle_free : {P : Type 0} → IsFree {P = P} Idle
idle_free is = cc

ready_free : {P : Type 0} (plan : P) → IsFree (Ready plan)
ready_free plan is = cc

idle_ready : {P : Type 0} (plan : P) → Idle ≡ Ready plan → ⊥
idle_ready plan is = cc

ready_either : (a b : Bool) → a ≡ true → (a || b) ≡ true
ready_either true b is = refl
ready_either false b is = cc

or_false : (a : Bool) → (a || false) ≡ a
or_false true = refl
or_false false = refl

or_true : (a : Bool) → (a || true) ≡ true
or_true true = refl
or_true false = refl

itself : (index : ℕ) → is_among (index ∷ []) index ≡ true
itself index = rw (eq-eqb index index refl) refl

another : (index i : ℕ) → i ≢ index → is_among (index ∷ []) i ≡ false
another index i other = rw (ne_eqb index i (λ same. other (sym same))) refl

-- With an entry that is put in the place of a message's.
module _ {P : Type 0} (plan_in : P → Plan) (edition : EditionState) (old new : Flights P) (index : ℕ) (kept : Slot P)
    (puts : Puts old new edition.number index kept) where
  here : slot edition new index ≡ kept
  here = puts edition.number index
      ∙ ap (λ (b : Bool). if b && (index == index) then kept else slot edition old index) (eq-eqb edition.number edition.number refl)
      ∙ ap (λ (b : Bool). if b then kept else slot edition old index) (eq-eqb index index refl)

  there : (i : ℕ) → i ≢ index → slot edition new i ≡ slot edition old i
  there i other = puts edition.number i
      ∙ ap (λ (b : Bool). if b && (i == index) then kept else slot edition old i) (eq-eqb edition.number edition.number refl)
      ∙ ap (λ (b : Bool). if b then kept else slot edition old i) (ne_eqb i index other)

  elsewhere : (e i : ℕ) → e ≢ edition.number → slot_of new e i ≡ slot_of old e i
  elsewhere e i other = puts e i ∙ ap (λ (b : Bool). if b && (i == index) then kept else slot_of old e i) (ne_eqb e edition.number other)

  -- what holds of the entry that is put and of each other entry holds of each
  each : (Q : ℕ → Slot P → Type 0) → Q index kept → ((i : ℕ) → Q i (slot edition old i)) → (i : ℕ) → Q i (slot edition new i)
  each Q one others i = ⊎_elim
      (λ (same : i ≡ index). subst (λ j. Q j (slot edition new j)) (sym same) (subst (Q index) (sym here) one))
      (λ (other : i ≡ index → ⊥). subst (Q i) (sym (there i other)) (others i))
      (cases_eq i index)

  pub are_of : AreOf plan_in edition old → index < length edition.items → kept.state ≢ Claimed → kept.quits ≤ most_quits
      → ((plan : P) → kept.state ≡ Ready plan → IsPlanAt edition index (plan_in plan)) → AreOf plan_in edition new
  are_of are inside free small planned = record {
    others = λ e i other. elsewhere e i other ∙ are.others e i other;
    beyond = λ i from. there i (λ same. omega (arith, same, from, inside)) ∙ are.beyond i from;
    small = each (λ i s. s.quits ≤ most_quits) small are.small;
    unclaimed = each (λ i s. s.state ≢ Claimed) free are.unclaimed;
    plans = each (λ i s. (plan : P) → s.state ≡ Ready plan → IsPlanAt edition i (plan_in plan)) planned are.plans;
  }

  pub finds : is_ready_state kept.state ≡ true → kept.quits ≡ (slot edition old index).quits → Finds edition old index new
  finds ready quits = record {
    ready = λ i. ⊎_elim
        (λ (same : i ≡ index).
        subst (λ j. is_ready_state (slot edition new j).state ≡ (is_ready_state (slot edition old j).state || is_among (index ∷ []) j)) (sym same)
        (ap (λ (s : Slot P). is_ready_state s.state) here ∙ ready
        ∙ sym (ap (λ b. is_ready_state (slot edition old index).state || b) (itself index) ∙ or_true (is_ready_state (slot edition old index).state))))
        (λ (other : i ≡ index → ⊥).
        ap (λ (s : Slot P). is_ready_state s.state) (there i other)
        ∙ sym (ap (λ b. is_ready_state (slot edition old i).state || b) (another index i other) ∙ or_false (is_ready_state (slot edition old i).state)))
        (cases_eq i index);
    quits = λ i. ⊎_elim
        (λ (same : i ≡ index). subst (λ j. (slot edition new j).quits ≡ (slot edition old j).quits) (sym same) (ap (λ (s : Slot P). s.quits) here ∙ quits))
        (λ (other : i ≡ index → ⊥). ap (λ (s : Slot P). s.quits) (there i other))
        (cases_eq i index);
  }

  -- the entry was idle and is again, with one more quit
  pub misses : (slot edition old index).state ≡ Idle → kept ≡ record { state = Idle; quits = min ((slot edition old index).quits + 1) most_quits }
      → (slot edition old index).quits ≤ most_quits → Misses edition old index new
  misses idle is small =
      let quits : (slot edition new index).quits ≡ min ((slot edition old index).quits + 1) most_quits =
      ap (λ (s : Slot P). s.quits) (here ∙ is) in
      record {
        kept = λ i ready. sym (ap is_ready_state (state_same i)) ∙ ready;
        new = λ i ready. ready_either (is_ready_state (slot edition old i).state) (is_among (index ∷ []) i) (ap is_ready_state (state_same i) ∙ ready);
        least = omega (arith, quits, small);
        most = omega (arith, quits, small);
        quits = λ i other. ap (λ (s : Slot P). s.quits) (there i other);
      }
    where
      state_same : (i : ℕ) → (slot edition old i).state ≡ (slot edition new i).state
      state_same i = ⊎_elim
          (λ (same : i ≡ index). subst (λ j. (slot edition old j).state ≡ (slot edition new j).state) (sym same)
          (idle ∙ sym (ap (λ (s : Slot P). s.state) (here ∙ is))))
          (λ (other : i ≡ index → ⊥). sym (ap (λ (s : Slot P). s.state) (there i other)))
          (cases_eq i index)

module _ {P : Type 0} (edition : EditionState) (old new : Flights P) (index : ℕ) where
  -- nothing has changed
  pub same_misses : IsSame old new → Misses edition old index new
  same_misses same = record {
    kept = λ i ready. ap (λ (s : Slot P). is_ready_state s.state) (same edition.number i) ∙ ready;
    new = λ i ready.
        ready_either (is_ready_state (slot edition old i).state) (is_among (index ∷ []) i)
        (sym (ap (λ (s : Slot P). is_ready_state s.state) (same edition.number i)) ∙ ready);
    least = omega (arith, ap (λ (s : Slot P). s.quits) (same edition.number index));
    most = omega (arith, ap (λ (s : Slot P). s.quits) (same edition.number index));
    quits = λ i other. ap (λ (s : Slot P). s.quits) (same edition.number i);
  }

  pub found_misses : Finds edition old index new → Misses edition old index new
  found_misses found = record {
    kept = λ i ready. found.ready i ∙ ready_either (is_ready_state (slot edition old i).state) (is_among (index ∷ []) i) ready;
    new = λ i ready. sym (found.ready i) ∙ ready;
    least = omega (arith, found.quits index);
    most = omega (arith, found.quits index);
    quits = λ i other. found.quits i;
  }

  pub same_are : {plan_in : P → Plan} → AreOf plan_in edition old → IsSame old new → AreOf plan_in edition new
  same_are {plan_in} are same = record {
    others = λ e i other. same e i ∙ are.others e i other;
    beyond = λ i from. same edition.number i ∙ are.beyond i from;
    small = λ i. subst (λ (s : Slot P). s.quits ≤ most_quits) (sym (same edition.number i)) (are.small i);
    unclaimed = λ i. subst (λ (s : Slot P). s.state ≢ Claimed) (sym (same edition.number i)) (are.unclaimed i);
    plans = λ i plan ready. are.plans i plan (sym (ap (λ (s : Slot P). s.state) (same edition.number i)) ∙ ready);
  }

-- where no entry was asked for, an edition's compilations are none
pub fresh_are : {P : Type 0} (plan_in : P → Plan) (edition : EditionState) (flights : Flights P)
    → ((e i : ℕ) → slot_of flights e i ≡ fresh) → AreOf plan_in edition flights
fresh_are {P} plan_in edition flights all = record {
  others = λ e i other. all e i;
  beyond = λ i from. all edition.number i;
  small = λ i. subst (λ (s : Slot P). s.quits ≤ most_quits) (sym (all edition.number i)) (omega arith);
  unclaimed = λ i. subst (λ (s : Slot P). s.state ≢ Claimed) (sym (all edition.number i)) idle_free;
  plans = λ i plan ready. absurd (idle_ready plan (sym (ap (λ (s : Slot P). s.state) (all edition.number i)) ∙ ready));
}

-- an edition that is retired leaves none
pub retired_fresh : {P : Type 0} {plan_in : P → Plan} (edition : EditionState) (old new : Flights P) → AreOf plan_in edition old
    → Retires old new edition.number → (e i : ℕ) → slot_of new e i ≡ fresh
retired_fresh {P} edition old new are retires e i = retires e i ∙ by (e == edition.number) refl
  where
    by : (b : Bool) → (e == edition.number) ≡ b → (if b then fresh else slot_of old e i) ≡ fresh {P = P}
    by true is = refl
    by false is = are.others e i (λ same. true_false (sym (eq-eqb e edition.number same) ∙ is))
      where
        true_false : true ≡ false → ⊥
        true_false is = cc

-- With a message that is claimed, and then compiled.
module _ (edition : EditionState) (old mid new : Flights (Arc Plan Global)) (index : ℕ) (ticket : ℕ × ℕ) (source : List ℕ)
    (are : AreOf arc_value edition old) (none : plan_of (slot edition old index).state ≡ None)
    (asks : Puts old mid edition.number index (asked (slot edition old index)))
    (told : answers.Claimed ticket ≡ answer_to (slot edition old index).state edition.number index) where
  idle : (slot edition old index).state ≡ Idle
  idle = idle_is (slot edition old index).state none (are.unclaimed index)

  ticket_is : ticket ≡ (edition.number, index)
  ticket_is = same_ticket (told ∙ ap (λ state. answer_to state edition.number index) idle)
    where
      same_ticket : answers.Claimed ticket ≡ answers.Claimed (edition.number, index) → ticket ≡ (edition.number, index)
      same_ticket is = cc

  claimed : slot edition mid index ≡ asked (slot edition old index)
  claimed = here arc_value edition old mid index (asked (slot edition old index)) asks

  quits_same : (slot edition mid index).quits ≡ (slot edition old index).quits
  quits_same = ap (λ (s : Slot (Arc Plan Global)). s.quits) claimed

  pub is_claimed : (slot_of mid ticket.0 ticket.1).state ≡ Claimed
  is_claimed = subst (λ t. (slot_of mid t.0 t.1).state ≡ Claimed) (sym ticket_is)
      (ap (λ (s : Slot (Arc Plan Global)). s.state) claimed ∙ ap (λ (state : State (Arc Plan Global)). (asked (record { state = state; quits = 0 })).state) idle)

  module _ (item : Item) (there : slice_get edition.items index ≡ Some item) (source_is : source ≡ item.source) (inside : index < length edition.items) where
    keeps_at : Keeps source mid ticket.0 ticket.1 new → Keeps source mid edition.number index new
    keeps_at keeps = subst (λ t. Keeps source mid t.0 t.1 new) ticket_is keeps

    pub keeps_are : Keeps source mid ticket.0 ticket.1 new → AreOf arc_value edition new
    keeps_are keeps =
        let at = keeps_at keeps in
        are_of arc_value edition old new index (done (slot edition mid index) at.plan)
        (puts_again old mid new edition.number index (asked (slot edition old index)) (done (slot edition mid index) at.plan) asks at.puts)
        are inside (ready_free at.plan) (omega (arith, quits_same, are.small index)) (planned at)
      where
        planned : (at : Keeps source mid edition.number index new) (plan : Arc Plan Global) → Ready at.plan ≡ Ready plan → IsPlanAt edition index (arc_value plan)
        planned at plan is = subst (λ plan. IsPlanAt edition index (arc_value plan)) (same_plan is) (record {
          item = item;
          there = there;
          compiles = subst (λ source. CompilesTo source (arc_value at.plan)) source_is at.compiles;
          node = at.node;
        })
          where
            same_plan : {one other : Arc Plan Global} → Ready one ≡ Ready other → one ≡ other
            same_plan is = cc

    pub keeps_found : Keeps source mid ticket.0 ticket.1 new → Finds edition old index new
    keeps_found keeps =
        let at = keeps_at keeps in
        finds arc_value edition old new index (done (slot edition mid index) at.plan)
        (puts_again old mid new edition.number index (asked (slot edition old index)) (done (slot edition mid index) at.plan) asks at.puts)
        refl quits_same

    quits_at : Puts mid new ticket.0 ticket.1 (quit (slot_of mid ticket.0 ticket.1)) → Puts old new edition.number index (quit (slot edition mid index))
    quits_at puts =
        puts_again old mid new edition.number index (asked (slot edition old index)) (quit (slot edition mid index)) asks
        (subst (λ t. Puts mid new t.0 t.1 (quit (slot_of mid t.0 t.1))) ticket_is puts)

    pub ends_are : KeepsOrQuits source mid ticket.0 ticket.1 new → AreOf arc_value edition new
    ends_are (inl keeps) = keeps_are keeps
    ends_are (inr puts) =
        are_of arc_value edition old new index (quit (slot edition mid index)) (quits_at puts)
        are inside idle_free (omega arith) (λ plan is. absurd (idle_ready plan is))

    pub ends_missed : KeepsOrQuits source mid ticket.0 ticket.1 new → Misses edition old index new
    ends_missed (inl keeps) = found_misses edition old new index (keeps_found keeps)
    ends_missed (inr puts) =
        misses arc_value edition old new index (quit (slot edition mid index)) (quits_at puts)
        idle (ap (λ quits. record { state = Idle; quits = min (quits + 1) most_quits }) quits_same) (are.small index)
