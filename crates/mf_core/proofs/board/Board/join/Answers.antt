use Rattle.std.proofs.Common.{◌≡◌, ◌∙◌, List, None, true, ap, sym, refl, arith, length}
use Rattle.std.specs.Prelude.{if◌then◌else◌}
use Rattle.mf_core.specs.declared.event.Event.TheVariants.{Join}
use Rattle.mf_core.specs.declared.event.Told.TheVariants.{Joined}
use Rattle.mf_core.specs.declared.board.Board.{Board}
use Rattle.mf_core.specs.declared.caller.CallerState.{CallerState}
use Rattle.mf_core.specs.Kept.{board_world, state_at}
use Rattle.mf_core.specs.Steps.{limit, row}
use Rattle.mf_core.specs.Worlds.{away, World, swept}
use Rattle.mf_core.proofs.Afterwards.{does, kept_after, kept_same, no_join_limit, same_world}
use Rattle.mf_core.proofs.Events.{join_world, pins_joined}
use Rattle.std.proofs.lemmas.Bool.{eqb-true}
use Rattle.std.specs.Prelude.{◌==◌}
use Rattle.mf_core.proofs.Puts.{not_true}
use Rattle.mf_core.proofs.board.Board.join.Goals as goal
use Rattle.mf_core.proofs.board.Board.join.Given.{Over}

pub returns-in_err-push_state-clause-kept : goal.returns-in_err-push_state-clause-kept
returns-in_err-push_state-clause-kept g c =
    let same = c.in_err-push_state.ensures.err in
    kept_same c.args.self.now _
    (same_world _ (board_world c.args.self.now) refl (ap length same) (λ n. ap (λ (l : List CallerState). state_at l n) same) (λ d j. refl)) refl c.requires.kept

after : (g : Over) → goal.In_ok-push_state g → Board g.row.P.Denot
after g c = record {
  log = c.args.self.now.log;
  callers = c.push_state.new.callers;
  editions = c.args.self.now.editions;
  flights = c.args.self.now.flights;
}

next : (g : Over) (c : goal.In_ok-push_state g) → c.args.caller ≡ length c.args.self.now.callers.items
next g c = eqb-true c.args.caller (length c.args.self.now.callers.items)
    (not_true (c.args.caller == length c.args.self.now.callers.items) c.requires.yours)

room : (g : Over) (c : goal.In_ok-push_state g) → limit (board_world c.args.self.now) (Join c.args.caller) ≡ None
room g c = no_join_limit (length c.args.self.now.callers.items) (omega arith)

is : (g : Over) (c : goal.In_ok-push_state g) → board_world (after g c) ≡ swept (row (board_world c.args.self.now) (Join c.args.caller)).1
unfolding after
is g c =
    let w : World = board_world c.args.self.now in
    let seen = c.len-2.ensures.len in
    join_world w (board_world (after g c)) c.requires.kept.valid c.args.caller (next g c) refl c.in_ok-push_state.ensures.many
    (λ m. c.in_ok-push_state.ensures.states m ∙ (λ k. if m == sym (next g c) k then record away { joined = true; seen = seen k } else w.caller m))
    (λ d j. refl)

pub returns-clause-does : goal.returns-clause-does
unfolding after
returns-clause-does g c =
    does (board_world c.args.self.now) (Join c.args.caller) Joined (board_world (after g c)) c.requires.yours (room g c) refl (is g c)

pub returns-clause-kept : goal.returns-clause-kept
unfolding after
returns-clause-kept g c =
    let w : World = board_world c.args.self.now in
    kept_after c.args.self.now (after g c) (Join c.args.caller) c.editions_stay.ensures c.requires.kept c.requires.yours (room g c) (is g c)
    c.requires.kept.many c.requires.kept.messages
    (λ e. c.requires.kept.counted e
    ∙ sym (pins_joined w c.args.caller (record away { joined = true; seen = length w.log }) e (next g c) refl))
