use Rattle.std.proofs.Common.{◌∙◌, ◌<◌, ℕ, ap, sym, refl, arith, length}
use Rattle.mf_core.specs.declared.caller.CallerState.{CallerState}
use Rattle.mf_core.specs.Kept.{held_at, board_world, repinned}
use Rattle.mf_core.specs.Worlds.{World, is_live}
use Rattle.mf_core.proofs.Afterwards.{claims_keep, dead_is, held_edition, none_claimed, pin_held, pins_room, repin_world, was_not}
use Rattle.std.specs.Option.{unwrap_or}
use Rattle.std.specs.Prelude.{◌==◌, ◌&&◌}
use Rattle.mf_flight.specs.declared.slot.Slot.{Slot}
use Rattle.mf_flight.specs.Flights.{slot_of}
use Rattle.mf_flight.specs.Slots.{fresh, plan_of}
use Rattle.mf_core.specs.Kept.{blank, blank_state, is_dead}
use Rattle.mf_core.proofs.Boards.{blank_if, plan_dropped}
use Rattle.mf_core.proofs.Published.{repin_counted}
use Rattle.mf_core.proofs.board.Board.repin.Goals as goal

pub move_pin-requires-clause-from : goal.move_pin-requires-clause-from
move_pin-requires-clause-from g c =
    pin_held c.args.self.now c.requires.kept c.args.caller c.requires.joined c.state_at-earlier.result.pinned
    (ap (λ (s : CallerState). s.pinned) (sym c.state_at-earlier.ensures))

pub move_pin-requires-clause-room : goal.move_pin-requires-clause-room
move_pin-requires-clause-room g c = pins_room c.args.self.now c.requires.kept

pub drop_dead-requires-clause-there : goal.drop_dead-requires-clause-there
drop_dead-requires-clause-there g c =
    let newest = c.len-newest.ensures.len in
    let many = c.requires.kept.many in
    let less : c.len-newest.result < length c.args.self.now.editions.items = omega arith in
    let P : ℕ → Type 0 = λ e. 0 < (held_at c.args.self.now.editions.items e).pins in
    let a = held_edition c.state_at-earlier.result.pinned c.len-newest.result (length c.args.self.now.editions.items) P
    (pin_held c.args.self.now c.requires.kept c.args.caller c.requires.joined c.state_at-earlier.result.pinned
    (ap (λ (s : CallerState). s.pinned) (sym c.state_at-earlier.ensures))) less in
    let b = c.unwrap_or-edition.ensures in
    let d = c.move_pin.ensures.many in
    omega arith

pub drop_dead-requires-clause-free : goal.drop_dead-requires-clause-free
drop_dead-requires-clause-free g c = λ dead i is.
    let w : World = board_world c.args.self.now in
    let new : CallerState = record (w.caller c.args.caller) { pinned = c.args.to; seen = c.args.seen } in
    let newest = c.len-newest.ensures.len in
    let x : World = repinned w c.args.caller c.args.to c.args.seen in
    let counted = repin_counted c.args.self.now c.move_pin.new.editions.items c.requires.kept c.args.caller c.requires.joined c.args.to c.args.seen
    c.state_at-earlier.result.pinned (ap (λ (s : CallerState). s.pinned) c.state_at-earlier.ensures) c.move_pin.ensures in
    none_claimed w x c.requires.kept.valid (omega arith) (claims_keep w c.args.caller new c.requires.free) c.unwrap_or-edition.result
    (was_not (is_live x c.unwrap_or-edition.result)
    (sym (dead_is c.move_pin.new.editions.items x c.len-newest.result c.unwrap_or-edition.result newest (counted c.unwrap_or-edition.result)) ∙ dead)) i
    (ap blank_state is)

pub returns-clause-counted : goal.returns-clause-counted
returns-clause-counted g c =
    repin_counted c.args.self.now c.move_pin.new.editions.items c.requires.kept c.args.caller c.requires.joined c.args.to c.args.seen
    c.state_at-earlier.result.pinned (ap (λ (s : CallerState). s.pinned) c.state_at-earlier.ensures) c.move_pin.ensures

pub returns-clause-world : goal.returns-clause-world
returns-clause-world g c =
    let w : World = board_world c.args.self.now in
    let newest = c.len-newest.ensures.len in
    let own = ap (λ (s : CallerState). s.pinned) c.state_at-earlier.ensures in
    let x : World = repinned w c.args.caller c.args.to c.args.seen in
    let counted = repin_counted c.args.self.now c.move_pin.new.editions.items c.requires.kept c.args.caller c.requires.joined c.args.to c.args.seen
    c.state_at-earlier.result.pinned own c.move_pin.ensures in
    repin_world w _ c.requires.kept.valid c.args.caller c.args.to c.args.seen c.unwrap_or-edition.result
    (is_dead c.move_pin.new.editions.items c.len-newest.result c.unwrap_or-edition.result)
    (c.unwrap_or-edition.ensures ∙ (λ k. unwrap_or (own k) (newest k)))
    (dead_is c.move_pin.new.editions.items x c.len-newest.result c.unwrap_or-edition.result newest (counted c.unwrap_or-edition.result))
    refl c.put_pin.ensures.many c.put_pin.ensures.states
    (λ d j. ap blank (c.drop_dead.ensures d j)
    ∙ blank_if ((d == c.unwrap_or-edition.result) && is_dead c.move_pin.new.editions.items c.len-newest.result c.unwrap_or-edition.result)
    fresh (slot_of c.args.self.now.flights d j))

pub returns-clause-plans : goal.returns-clause-plans
returns-clause-plans g c = λ d j plan is.
    plan_dropped ((d == c.unwrap_or-edition.result) && is_dead c.move_pin.new.editions.items c.len-newest.result c.unwrap_or-edition.result)
    (slot_of c.args.self.now.flights d j) plan (ap (λ (s : Slot g.row.P.Denot). plan_of s.state) (sym (c.drop_dead.ensures d j)) ∙ is)
