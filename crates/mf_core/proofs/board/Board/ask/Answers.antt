use Rattle.std.proofs.Common.{◌≡◌, ◌∙◌, ◌<◌, ℕ, Some, None, ap, sym, refl}
use Rattle.std.specs.Prelude.{◌==◌, ◌&&◌, ◌||◌, not, if◌then◌else◌}
use Rattle.std.specs.Option.{is_some}
use Rattle.mf_flight.specs.declared.flights.Flights.{Flights}
use Rattle.mf_flight.specs.declared.slot.Slot.{Slot}
use Rattle.mf_flight.specs.declared.slot.State.TheVariants as state
use Rattle.mf_flight.specs.Flights.{slot_of, Puts}
use Rattle.mf_flight.specs.Slots.{asked, plan_of}
use Rattle.mf_core.specs.declared.board.Board.{Board}
use Rattle.mf_core.specs.declared.caller.CallerState.{CallerState}
use Rattle.mf_core.specs.declared.event.Event.TheVariants.{Ask}
use Rattle.mf_core.specs.declared.event.Told.{Told}
use Rattle.mf_core.specs.declared.event.Told.TheVariants.{Busy, Claimed, Ready}
use Rattle.mf_core.specs.Kept.{blank, board_world}
use Rattle.mf_core.specs.Steps.{ask_row, asked_row, is_past, row, IsYours, Step}
use Rattle.mf_core.specs.Worlds.{World, swept}
use Rattle.mf_core.specs.Valid.{Valid}
use Rattle.mf_core.proofs.Afterwards.{does, kept_after, kept_flights, put_same, row_busy, row_ready, same_flights, was_busy, was_idle, was_ready, with_flights}
use Rattle.mf_core.proofs.Boards.{blank_asked, blank_idle, blank_if, plan_asked}
use Rattle.mf_core.proofs.Events.{ask_world, has_seat, nothing_world, pins_ask}
use Rattle.mf_core.proofs.Puts.{neither, not_true}
use Rattle.mf_core.proofs.Steps.{no_some}
use Rattle.mf_core.proofs.board.Board.ask.Goals as goal
use Rattle.mf_core.proofs.board.Board.ask.Given.{Over}

-- what a caller may ask
may : (w : World) (n i : ℕ) → Valid w → IsYours w (Ask n i) → (n < w.next) × ((w.caller n).claim ≡ None)
may w n i v yours =
    let s : CallerState = w.caller n in
    let a = neither (not s.joined || not (is_some s.pinned) || is_some s.claim) (is_past w s.pinned i) yours in
    let b = neither (not s.joined || not (is_some s.pinned)) (is_some s.claim) a.0 in
    let d = neither (not s.joined) (not (is_some s.pinned)) b.0 in
    (has_seat w v n (not_true s.joined d.0), no_some s.claim b.1)

pub returns-in_err-ask-clause-kept : goal.returns-in_err-ask-clause-kept
returns-in_err-ask-clause-kept g c =
    kept_flights c.args.self.now c.ask.new.self c.in_err-ask.ensures.err c.requires.kept

-- the edition that is asked is the caller's pinned one
pinned_is : (w : World) (n e : ℕ) (s : CallerState) → s ≡ w.caller n → s.pinned ≡ Some e → (w.caller n).pinned ≡ Some e
pinned_is w n e s is pin = ap (λ (s : CallerState). s.pinned) (sym is) ∙ pin

row_is : (w : World) (n e i : ℕ) (told : Told) → (w.caller n).pinned ≡ Some e → asked_row w n e i (w.slot e i).state ≡ (told, w)
    → row w (Ask n i) ≡ (told, w)
row_is w n e i told pin is = ap (ask_row w n i) pin ∙ is

unchanged : (w v : World) (n i : ℕ) (told : Told) → Valid w → IsYours w (Ask n i) → row w (Ask n i) ≡ (told, w) → v ≡ w → Step w (Ask n i) told v
unchanged w v n i told valid yours is same =
    does w (Ask n i) told v yours refl (ap (λ (r : Told × World). r.0) (sym is))
    (nothing_world w v valid same ∙ ap (λ (r : Told × World). swept r.1) (sym is))

ready_slots : (g : Over) (c : goal.In-Ready g) → (d j : ℕ) → slot_of c.ask.new.self d j ≡ slot_of c.args.self.now.flights d j
ready_slots g c d j = c.in_ok-ask.ensures.ok d j ∙ put_same (slot_of c.args.self.now.flights) c.in-Some.edition c.args.index _
    (was_ready (slot_of c.args.self.now.flights c.in-Some.edition c.args.index) c.in-Some.edition c.args.index
    (sym c.in_ok-ask.ensures.answer ∙ c.in-Ready.is)) d j

busy_slots : (g : Over) (c : goal.In-Busy g) → (d j : ℕ) → slot_of c.ask.new.self d j ≡ slot_of c.args.self.now.flights d j
busy_slots g c d j = c.in_ok-ask.ensures.ok d j ∙ put_same (slot_of c.args.self.now.flights) c.in-Some.edition c.args.index _
    (was_busy (slot_of c.args.self.now.flights c.in-Some.edition c.args.index) c.in-Some.edition c.args.index
    (sym c.in_ok-ask.ensures.answer ∙ c.in-Busy.is)) d j

pub returns-in-Ready-clause-step : goal.returns-in-Ready-clause-step
returns-in-Ready-clause-step g c =
    let w : World = board_world c.args.self.now in
    unchanged w (board_world (with_flights c.args.self.now c.ask.new.self)) c.args.caller c.args.index Ready c.requires.kept.valid c.requires.yours
    (row_is w c.args.caller c.in-Some.edition c.args.index Ready (pinned_is w c.args.caller c.in-Some.edition c.state_at.result c.state_at.ensures c.in-Some.is)
    (row_ready w c.args.caller c.in-Some.edition c.args.index (slot_of c.args.self.now.flights c.in-Some.edition c.args.index).state
    (sym c.in_ok-ask.ensures.answer ∙ c.in-Ready.is)))
    (same_flights c.args.self.now c.ask.new.self (ready_slots g c))

pub returns-in-Busy-clause-step : goal.returns-in-Busy-clause-step
returns-in-Busy-clause-step g c =
    let w : World = board_world c.args.self.now in
    unchanged w (board_world (with_flights c.args.self.now c.ask.new.self)) c.args.caller c.args.index Busy c.requires.kept.valid c.requires.yours
    (row_is w c.args.caller c.in-Some.edition c.args.index Busy (pinned_is w c.args.caller c.in-Some.edition c.state_at.result c.state_at.ensures c.in-Some.is)
    (row_busy w c.args.caller c.in-Some.edition c.args.index (slot_of c.args.self.now.flights c.in-Some.edition c.args.index).state
    (sym c.in_ok-ask.ensures.answer ∙ c.in-Busy.is)))
    (same_flights c.args.self.now c.ask.new.self (busy_slots g c))

pub returns-in-Ready-clause-kept : goal.returns-in-Ready-clause-kept
returns-in-Ready-clause-kept g c =
    kept_flights c.args.self.now c.ask.new.self (ready_slots g c) c.requires.kept

pub returns-in-Busy-clause-kept : goal.returns-in-Busy-clause-kept
returns-in-Busy-clause-kept g c =
    kept_flights c.args.self.now c.ask.new.self (busy_slots g c) c.requires.kept

plans_asked : (g : Over) (flights flights' : Flights g.row.P.Denot) (e i : ℕ) → Puts flights flights' e i (asked (slot_of flights e i))
    → (d j : ℕ) (plan : g.row.P.Denot) → plan_of (slot_of flights' d j).state ≡ Some plan → plan_of (slot_of flights d j).state ≡ Some plan
plans_asked g flights flights' e i puts d j plan is =
    plan_asked (slot_of flights) e i d j plan (ap (λ (s : Slot g.row.P.Denot). plan_of s.state) (sym (puts d j)) ∙ is)

pub returns-in-Ready-clause-plans : goal.returns-in-Ready-clause-plans
returns-in-Ready-clause-plans g c = plans_asked g c.args.self.now.flights c.ask.new.self c.in-Some.edition c.args.index c.in_ok-ask.ensures.ok

pub returns-in-Busy-clause-plans : goal.returns-in-Busy-clause-plans
returns-in-Busy-clause-plans g c = plans_asked g c.args.self.now.flights c.ask.new.self c.in-Some.edition c.args.index c.in_ok-ask.ensures.ok

pub returns-in-Claimed-clause-plans : goal.returns-in-Claimed-clause-plans
returns-in-Claimed-clause-plans g c = plans_asked g c.args.self.now.flights c.ask.new.self c.in-Some.edition c.args.index c.in_ok-ask.ensures.ok

after : (g : Over) → goal.After-put_claim g → Board g.row.P.Denot
after g c = record {
  log = c.args.self.now.log;
  callers = c.put_claim.new.callers;
  editions = c.args.self.now.editions;
  flights = c.ask.new.self;
}

pin : (g : Over) (c : goal.After-put_claim g) → ((board_world c.args.self.now).caller c.args.caller).pinned ≡ Some c.in-Some.edition
pin g c = ap (λ (s : CallerState). s.pinned) (sym c.state_at.ensures) ∙ c.in-Some.is

idle : (g : Over) (c : goal.After-put_claim g) → ((slot_of c.args.self.now.flights c.in-Some.edition c.args.index).state ≡ state.Idle)
    × (c.in-Claimed.ticket ≡ (c.in-Some.edition, c.args.index))
idle g c = was_idle (slot_of c.args.self.now.flights c.in-Some.edition c.args.index).state c.in-Some.edition c.args.index c.in-Claimed.ticket
    (sym c.in_ok-ask.ensures.answer ∙ c.in-Claimed.is)

is : (g : Over) (c : goal.After-put_claim g) → board_world (after g c) ≡ swept (row (board_world c.args.self.now) (Ask c.args.caller c.args.index)).1
unfolding after
is g c =
    let w : World = board_world c.args.self.now in
    ask_world w (board_world (after g c)) c.requires.kept.valid c.args.caller c.in-Some.edition c.args.index
    (may w c.args.caller c.args.index c.requires.kept.valid c.requires.yours).0 (pin g c)
    (blank_idle (slot_of c.args.self.now.flights c.in-Some.edition c.args.index).state (idle g c).0) refl c.put_claim.ensures.many
    c.put_claim.ensures.states
    (λ d j. ap blank (c.in_ok-ask.ensures.ok d j)
    ∙ blank_if ((d == c.in-Some.edition) && (j == c.args.index)) (asked (slot_of c.args.self.now.flights c.in-Some.edition c.args.index))
    (slot_of c.args.self.now.flights d j)
    ∙ ap (λ s. (if (d == c.in-Some.edition) && (j == c.args.index) then s else blank (slot_of c.args.self.now.flights d j)))
    (blank_asked (slot_of c.args.self.now.flights c.in-Some.edition c.args.index) (idle g c).0))

pub returns-in-Claimed-clause-step : goal.returns-in-Claimed-clause-step
unfolding after
returns-in-Claimed-clause-step g c =
    let w : World = board_world c.args.self.now in
    does w (Ask c.args.caller c.args.index) Claimed (board_world (after g c)) c.requires.yours refl
    (ap (λ s. (asked_row w c.args.caller c.in-Some.edition c.args.index s).0)
    (sym (blank_idle (slot_of c.args.self.now.flights c.in-Some.edition c.args.index).state (idle g c).0))
    ∙ ap (λ o. (ask_row w c.args.caller c.args.index o).0) (sym (pin g c))) (is g c)

pub returns-in-Claimed-clause-kept : goal.returns-in-Claimed-clause-kept
unfolding after
returns-in-Claimed-clause-kept g c =
    let w : World = board_world c.args.self.now in
    kept_after c.args.self.now (after g c) (Ask c.args.caller c.args.index) c.editions_stay.ensures c.requires.kept c.requires.yours refl (is g c)
    c.requires.kept.many c.requires.kept.messages
    (λ e. c.requires.kept.counted e ∙ sym (pins_ask w c.args.caller c.args.index e (w.caller c.args.caller).pinned
    (may w c.args.caller c.args.index c.requires.kept.valid c.requires.yours).0))
