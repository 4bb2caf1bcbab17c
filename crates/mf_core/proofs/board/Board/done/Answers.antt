use Rattle.std.proofs.Common.{◌≡◌, ◌∙◌, ◌<◌, sym, refl, ap, length}
use Rattle.std.specs.Prelude.{◌==◌, ◌&&◌, not}
use Rattle.std.specs.Option.{is_some}
use Rattle.mf_flight.specs.Flights.{slot_of}
use Rattle.mf_flight.specs.Slots.{done, plan_of}
use Rattle.mf_flight.specs.declared.slot.Slot.{Slot}
use Rattle.mf_core.specs.declared.board.Board.{Board}
use Rattle.mf_core.specs.declared.event.Event.TheVariants.{Done}
use Rattle.mf_core.specs.declared.event.Told.TheVariants.{Ended}
use Rattle.mf_core.specs.Kept.{blank, board_world, state_at}
use Rattle.mf_core.specs.Steps.{row}
use Rattle.mf_core.specs.Worlds.{World, swept}
use Rattle.mf_core.proofs.Afterwards.{does, kept_after}
use Rattle.mf_core.proofs.Boards.{blank_claimed, blank_if, plan_done, plan_now}
use Rattle.mf_core.proofs.Events.{ended_done, has_seat, pins_done, done_world}
use Rattle.mf_core.proofs.Puts.{neither, not_true}
use Rattle.mf_core.proofs.board.Board.done.Goals as goal
use Rattle.mf_core.proofs.board.Board.done.Given.{Over}

pub put_claim-requires : goal.put_claim-requires
put_claim-requires g c =
    let w : World = board_world c.args.self.now in
    let a = neither (not (w.caller c.args.caller).joined) (not (is_some (w.caller c.args.caller).claim)) c.requires.yours in
    has_seat w c.requires.kept.valid c.args.caller (not_true (w.caller c.args.caller).joined a.0)

pub done-requires : goal.done-requires
done-requires g c =
    blank_claimed (slot_of c.args.self.now.flights c.args.spent.0 c.args.spent.1).state
    (c.requires.kept.valid.claims.entry c.args.caller c.args.spent.0 c.args.spent.1 c.requires.claim).1

less : (g : Over) (c : goal.After-done g) → c.args.caller < length c.args.self.now.callers.items
less g c =
    let w : World = board_world c.args.self.now in
    let a = neither (not (w.caller c.args.caller).joined) (not (is_some (w.caller c.args.caller).claim)) c.requires.yours in
    has_seat w c.requires.kept.valid c.args.caller (not_true (w.caller c.args.caller).joined a.0)

after : (g : Over) → goal.After-done g → Board g.row.P.Denot
after g c = record {
  log = c.args.self.now.log;
  callers = c.put_claim.new.callers;
  editions = c.args.self.now.editions;
  flights = c.done.new.self;
}

is : (g : Over) (c : goal.After-done g) → board_world (after g c) ≡ swept (row (board_world c.args.self.now) (Done c.args.caller)).1
unfolding after
is g c =
    done_world (board_world c.args.self.now) (board_world (after g c)) c.requires.kept.valid c.args.caller c.args.spent (less g c) c.requires.claim
    refl c.put_claim.ensures.many c.put_claim.ensures.states
    (λ d j. ap blank (c.done.ensures d j)
    ∙ blank_if ((d == c.args.spent.0) && (j == c.args.spent.1)) (done (slot_of c.args.self.now.flights c.args.spent.0 c.args.spent.1) c.args.plan)
    (slot_of c.args.self.now.flights d j))

pub returns-clause-step : goal.returns-clause-step
unfolding after
returns-clause-step g c =
    does (board_world c.args.self.now) (Done c.args.caller) Ended (board_world (after g c)) c.requires.yours refl
    (ended_done (board_world c.args.self.now) c.args.caller (state_at c.args.self.now.callers.items c.args.caller).claim) (is g c)

pub returns-clause-kept : goal.returns-clause-kept
unfolding after
returns-clause-kept g c =
    kept_after c.args.self.now (after g c) (Done c.args.caller) c.editions_stay.ensures c.requires.kept c.requires.yours refl (is g c)
    c.requires.kept.many c.requires.kept.messages
    (λ e. c.requires.kept.counted e
    ∙ sym (pins_done (board_world c.args.self.now) c.args.caller e (state_at c.args.self.now.callers.items c.args.caller).claim (less g c)))

pub returns-clause-plans : goal.returns-clause-plans
returns-clause-plans g c = λ d j plan is.
    plan_done (slot_of c.args.self.now.flights) c.args.spent.0 c.args.spent.1 c.args.plan d j plan
    (ap (λ (s : Slot g.row.P.Denot). plan_of s.state) (sym (c.done.ensures d j)) ∙ is)

pub returns-clause-ready : goal.returns-clause-ready
returns-clause-ready g c =
    ap (λ (s : Slot g.row.P.Denot). plan_of s.state) (c.done.ensures c.args.spent.0 c.args.spent.1)
    ∙ plan_now (slot_of c.args.self.now.flights) c.args.spent.0 c.args.spent.1 c.args.plan
