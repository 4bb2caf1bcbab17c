use Rattle.std.proofs.Common.{◌≡◌, ◌∙◌, ◌<◌, None, true, sym, refl, length}
use Rattle.std.specs.Prelude.{◌||◌, not}
use Rattle.std.specs.Option.{is_some}
use Rattle.mf_core.specs.declared.caller.CallerState.{CallerState}
use Rattle.mf_core.specs.declared.event.Event.TheVariants.{Leave}
use Rattle.mf_core.specs.declared.event.Told.TheVariants.{Ended}
use Rattle.mf_core.specs.declared.board.Board.{Board}
use Rattle.mf_core.specs.Kept.{board_world, state_at}
use Rattle.mf_core.specs.Steps.{row}
use Rattle.mf_core.specs.Worlds.{away, swept}
use Rattle.mf_core.proofs.Afterwards.{does, kept_after}
use Rattle.mf_core.proofs.Events.{has_seat, leave_world, pins_same}
use Rattle.mf_core.proofs.Puts.{neither, not_true}
use Rattle.mf_core.proofs.Steps.{no_some}
use Rattle.mf_core.proofs.board.Board.leave.Goals as goal
use Rattle.mf_core.proofs.board.Board.leave.Given.{Over}

yours : (g : Over) (c : goal.After-put_away g) → ((state_at c.args.self.now.callers.items c.args.caller).joined ≡ true)
    × ((state_at c.args.self.now.callers.items c.args.caller).pinned ≡ None) × ((state_at c.args.self.now.callers.items c.args.caller).claim ≡ None)
yours g c =
    let s : CallerState = state_at c.args.self.now.callers.items c.args.caller in
    let a = neither (not s.joined || is_some s.pinned) (is_some s.claim) c.requires.yours in
    let b = neither (not s.joined) (is_some s.pinned) a.0 in
    (not_true s.joined b.0, no_some s.pinned b.1, no_some s.claim a.1)

after : (g : Over) → goal.After-put_away g → Board g.row.P.Denot
after g c = record {
  log = c.args.self.now.log;
  callers = c.put_away.new.callers;
  editions = c.args.self.now.editions;
  flights = c.args.self.now.flights;
}

less : (g : Over) (c : goal.After-put_away g) → c.args.caller < length c.args.self.now.callers.items
less g c = has_seat (board_world c.args.self.now) c.requires.kept.valid c.args.caller (yours g c).0

is : (g : Over) (c : goal.After-put_away g) → board_world (after g c) ≡ swept (row (board_world c.args.self.now) (Leave c.args.caller)).1
unfolding after
is g c =
    leave_world (board_world c.args.self.now) (board_world (after g c)) c.requires.kept.valid c.args.caller (less g c) (yours g c).1
    refl c.put_away.ensures.many c.put_away.ensures.states (λ d j. refl)

pub returns-clause-step : goal.returns-clause-step
unfolding after
returns-clause-step g c =
    does (board_world c.args.self.now) (Leave c.args.caller) Ended (board_world (after g c)) c.requires.yours refl refl (is g c)

pub returns-clause-kept : goal.returns-clause-kept
unfolding after
returns-clause-kept g c =
    kept_after c.args.self.now (after g c) (Leave c.args.caller) c.editions_stay.ensures c.requires.kept c.requires.yours refl (is g c)
    c.requires.kept.many c.requires.kept.messages
    (λ e. c.requires.kept.counted e
    ∙ sym (pins_same (board_world c.args.self.now) c.args.caller away (less g c) (sym (yours g c).1) e))
