use Rattle.std.proofs.Common.{◌≡◌, ◌∙◌, ◌<◌, ◌+◌, List, None, ap, sym, arith, length, length-append, ◌∷◌, [], ◌++◌}
use Rattle.mf_core.specs.declared.caller.CallerState.{CallerState}
use Rattle.mf_core.specs.declared.event.Event.TheVariants.{Publish}
use Rattle.mf_core.specs.declared.event.Told.TheVariants.{Published}
use Rattle.mf_core.specs.declared.board.Board.{Board}
use Rattle.mf_core.specs.Kept.{board_world}
use Rattle.mf_core.specs.Steps.{limit, row}
use Rattle.mf_core.specs.Worlds.{World, is_live, swept, with_caller}
use Rattle.mf_core.proofs.Afterwards.{does, kept_after, was_not}
use Rattle.mf_core.proofs.Events.{has_seat}
use Rattle.mf_edition.specs.declared.change.Entry.{Entry}
use Rattle.mf_edition.specs.Edition.{newest_edition}
use Rattle.mf_core.specs.declared.held.Held.{Held}
use Rattle.std.specs.Prelude.{◌==◌, ◌&&◌}
use Rattle.mf_flight.specs.declared.slot.Slot.{Slot}
use Rattle.mf_flight.specs.Flights.{slot_of}
use Rattle.mf_flight.specs.Slots.{fresh, plan_of}
use Rattle.mf_core.specs.Kept.{blank, blank_state, is_dead}
use Rattle.mf_core.proofs.Boards.{blank_if, plan_dropped}
use Rattle.mf_core.specs.Steps.{log_error}
use Rattle.mf_core.proofs.Afterwards.{made_low}
use Rattle.mf_core.proofs.Published.{published_counted, published_dead, published_free, published_messages, published_world}
use Rattle.mf_core.proofs.Puts.{not_true}
use Rattle.mf_core.proofs.board.Board.publish.Goals as goal
use Rattle.mf_core.proofs.board.Board.publish.Given.{Over}

pub overflow_add-nth : goal.overflow_add-nth
overflow_add-nth g c =
    let w : World = board_world c.args.self.now in
    let low = made_low w c.requires.kept.valid c.args.caller (not_true (w.caller c.args.caller).joined c.requires.yours) in
    let is = ap (λ (s : CallerState). s.made) c.state_at-nth.ensures in
    omega arith

pub drop_dead-requires-clause-free : goal.drop_dead-requires-clause-free
drop_dead-requires-clause-free g c = λ dead i is.
    let w : World = board_world c.args.self.now in
    let less = has_seat w c.requires.kept.valid c.args.caller (not_true (w.caller c.args.caller).joined c.requires.yours) in
    let before = c.len-before.ensures.len in
    let editions = c.push_reserved.ensures.items ∙ ap (λ (l : List Held). l ++ record { messages = c.args.messages; pins = 0 } ∷ []) c.reserve.ensures.items in
    published_free c.args.self.now c.args.caller c.args.change c.requires.kept less c.len-before.result
    (was_not (is_live (row w (Publish c.args.caller c.args.change)).1 c.len-before.result)
    (sym (published_dead c.args.self.now c.args.caller c.args.change c.requires.kept less c.push_reserved.new.self.items c.args.messages c.len-before.result editions before) ∙ dead)) i
    (ap blank_state is)

after : (g : Over) → goal.After-drop_dead g → Board g.row.P.Denot
after g c = record {
  log = c.push.new.self;
  callers = c.put_made.new.callers;
  editions = c.push_reserved.new.self;
  flights = c.drop_dead.new.flights;
}

less : (g : Over) (c : goal.After-drop_dead g) → c.args.caller < length c.args.self.now.callers.items
less g c =
    let w : World = board_world c.args.self.now in
    has_seat w c.requires.kept.valid c.args.caller (not_true (w.caller c.args.caller).joined c.requires.yours)

editions : (g : Over) (c : goal.After-drop_dead g) → c.push_reserved.new.self.items ≡ c.args.self.now.editions.items ++ record { messages = c.args.messages; pins = 0 } ∷ []
editions g c = c.push_reserved.ensures.items ∙ ap (λ (l : List Held). l ++ record { messages = c.args.messages; pins = 0 } ∷ []) c.reserve.ensures.items

log : (g : Over) (c : goal.After-drop_dead g) → c.push.new.self ≡ (row (board_world c.args.self.now) (Publish c.args.caller c.args.change)).1.log
log g c = c.in_ok-push.ensures.ok
    ∙ ap (λ (s : CallerState). c.args.self.now.log ++ record { caller = c.args.caller; nth = s.made + 1; change = c.args.change } ∷ []) c.state_at-nth.ensures

none : (g : Over) (c : goal.After-drop_dead g) → limit (board_world c.args.self.now) (Publish c.args.caller c.args.change) ≡ None
none g c = ap log_error c.in_ok-push.ensures.accepted

is : (g : Over) (c : goal.After-drop_dead g) → board_world (after g c) ≡ swept (row (board_world c.args.self.now) (Publish c.args.caller c.args.change)).1
unfolding after
is g c =
    let w : World = board_world c.args.self.now in
    let before = c.len-before.ensures.len in
    let made = ap (λ (s : CallerState). s.made + 1) c.state_at-nth.ensures in
    published_world c.args.self.now c.args.caller c.args.change c.requires.kept (less g c) (board_world (after g c)) c.len-before.result
    (is_dead c.push_reserved.new.self.items (c.len-before.result + 1) c.len-before.result) before
    (published_dead c.args.self.now c.args.caller c.args.change c.requires.kept (less g c) c.push_reserved.new.self.items c.args.messages c.len-before.result (editions g c) before)
    (log g c) c.put_made.ensures.many
    (λ m. c.put_made.ensures.states m
    ∙ (λ k. (with_caller w c.args.caller (record (w.caller c.args.caller) { made = made k; seen = before k + 1 })).caller m))
    (λ d j. ap blank (c.drop_dead.ensures d j)
    ∙ blank_if ((d == c.len-before.result) && is_dead c.push_reserved.new.self.items (c.len-before.result + 1) c.len-before.result)
    fresh (slot_of c.args.self.now.flights d j))

pub returns-clause-step : goal.returns-clause-step
unfolding after
returns-clause-step g c =
    let before = c.len-before.ensures.len in
    does (board_world c.args.self.now) (Publish c.args.caller c.args.change) (Published (c.len-before.result + 1)) (board_world (after g c))
    c.requires.yours (none g c) (ap (λ k. Published (k + 1)) before) (is g c)

pub returns-clause-kept : goal.returns-clause-kept
unfolding after
returns-clause-kept g c =
    let w : World = board_world c.args.self.now in
    let entry : Entry = record { caller = c.args.caller; nth = (w.caller c.args.caller).made + 1; change = c.args.change } in
    let many : length c.push_reserved.new.self.items ≡ length c.args.self.now.editions.items + 1 =
    ap length (editions g c) ∙ length-append c.args.self.now.editions.items (record { messages = c.args.messages; pins = 0 } ∷ []) in
    let long : length c.push.new.self ≡ length c.args.self.now.log + 1 =
    ap length (log g c) ∙ length-append c.args.self.now.log (entry ∷ []) in
    let had = c.requires.kept.many in
    kept_after c.args.self.now (after g c) (Publish c.args.caller c.args.change) c.editions_stay.ensures c.requires.kept c.requires.yours (none g c) (is g c)
    (omega arith)
    (published_messages c.args.self.now c.push_reserved.new.self.items c.push.new.self entry c.args.messages c.requires.kept c.editions_stay.ensures
    c.newest_is_last.ensures (editions g c) (log g c) (c.requires.messages ∙ ap (λ k. length k.items) (sym (c.editions_follow.ensures c.args.self.now.log entry) ∙ ap newest_edition (sym (log g c)))))
    (published_counted c.args.self.now c.args.caller c.args.change c.requires.kept (less g c) c.push_reserved.new.self.items c.args.messages (editions g c))

pub returns-clause-plans : goal.returns-clause-plans
returns-clause-plans g c = λ d j plan is.
    plan_dropped ((d == c.len-before.result) && is_dead c.push_reserved.new.self.items (c.len-before.result + 1) c.len-before.result)
    (slot_of c.args.self.now.flights d j) plan (ap (λ (s : Slot g.row.P.Denot). plan_of s.state) (sym (c.drop_dead.ensures d j)) ∙ is)
