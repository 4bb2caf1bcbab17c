use Rattle.std.proofs.Common.{◌≡◌, ◌∙◌, ◌<◌, sym, refl, ap, length}
use Rattle.std.specs.Prelude.{◌==◌, ◌&&◌, not}
use Rattle.std.specs.Option.{is_some}
use Rattle.mf_flight.specs.Flights.{slot_of}
use Rattle.mf_flight.specs.Slots.{plan_of, quit}
use Rattle.mf_flight.specs.declared.slot.Slot.{Slot}
use Rattle.mf_core.specs.declared.board.Board.{Board}
use Rattle.mf_core.specs.declared.event.Event.TheVariants.{Quit}
use Rattle.mf_core.specs.declared.event.Told.TheVariants.{Ended}
use Rattle.mf_core.specs.Kept.{blank, board_world, state_at}
use Rattle.mf_core.specs.Steps.{row}
use Rattle.mf_core.specs.Worlds.{World, swept}
use Rattle.mf_core.proofs.Afterwards.{does, kept_after}
use Rattle.mf_core.proofs.Boards.{blank_claimed, blank_if, plan_quit}
use Rattle.mf_core.proofs.Events.{ended_quit, has_seat, pins_quit, quit_world}
use Rattle.mf_core.proofs.Puts.{neither, not_true}
use Rattle.mf_core.proofs.board.Board.quit.Goals as goal
use Rattle.mf_core.proofs.board.Board.quit.Given.{Over}

pub put_claim-requires : goal.put_claim-requires
put_claim-requires g c =
    let w : World = board_world c.args.self.now in
    let a = neither (not (w.caller c.args.caller).joined) (not (is_some (w.caller c.args.caller).claim)) c.requires.yours in
    has_seat w c.requires.kept.valid c.args.caller (not_true (w.caller c.args.caller).joined a.0)

pub quit-requires : goal.quit-requires
quit-requires g c =
    blank_claimed (slot_of c.args.self.now.flights c.args.ticket.0 c.args.ticket.1).state
    (c.requires.kept.valid.claims.entry c.args.caller c.args.ticket.0 c.args.ticket.1 c.requires.claim).1

less : (g : Over) (c : goal.After-quit g) → c.args.caller < length c.args.self.now.callers.items
less g c =
    let w : World = board_world c.args.self.now in
    let a = neither (not (w.caller c.args.caller).joined) (not (is_some (w.caller c.args.caller).claim)) c.requires.yours in
    has_seat w c.requires.kept.valid c.args.caller (not_true (w.caller c.args.caller).joined a.0)

after : (g : Over) → goal.After-quit g → Board g.row.P.Denot
after g c = record {
  log = c.args.self.now.log;
  callers = c.put_claim.new.callers;
  editions = c.args.self.now.editions;
  flights = c.quit.new.self;
}

is : (g : Over) (c : goal.After-quit g) → board_world (after g c) ≡ swept (row (board_world c.args.self.now) (Quit c.args.caller)).1
unfolding after
is g c =
    quit_world (board_world c.args.self.now) (board_world (after g c)) c.requires.kept.valid c.args.caller c.args.ticket (less g c) c.requires.claim
    refl c.put_claim.ensures.many c.put_claim.ensures.states
    (λ d j. ap blank (c.quit.ensures d j)
    ∙ blank_if ((d == c.args.ticket.0) && (j == c.args.ticket.1)) (quit (slot_of c.args.self.now.flights c.args.ticket.0 c.args.ticket.1))
    (slot_of c.args.self.now.flights d j))

pub returns-clause-step : goal.returns-clause-step
unfolding after
returns-clause-step g c =
    does (board_world c.args.self.now) (Quit c.args.caller) Ended (board_world (after g c)) c.requires.yours refl
    (ended_quit (board_world c.args.self.now) c.args.caller (state_at c.args.self.now.callers.items c.args.caller).claim) (is g c)

pub returns-clause-kept : goal.returns-clause-kept
unfolding after
returns-clause-kept g c =
    kept_after c.args.self.now (after g c) (Quit c.args.caller) c.editions_stay.ensures c.requires.kept c.requires.yours refl (is g c)
    c.requires.kept.many c.requires.kept.messages
    (λ e. c.requires.kept.counted e
    ∙ sym (pins_quit (board_world c.args.self.now) c.args.caller e (state_at c.args.self.now.callers.items c.args.caller).claim (less g c)))

pub returns-clause-plans : goal.returns-clause-plans
returns-clause-plans g c = λ d j plan is.
    plan_quit ((d == c.args.ticket.0) && (j == c.args.ticket.1)) (slot_of c.args.self.now.flights c.args.ticket.0 c.args.ticket.1)
    (slot_of c.args.self.now.flights d j) plan (ap (λ (s : Slot g.row.P.Denot). plan_of s.state) (sym (c.quit.ensures d j)) ∙ is)
