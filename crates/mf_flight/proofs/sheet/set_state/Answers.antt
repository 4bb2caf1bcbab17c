use Rattle.std.proofs.Common.{ap, subst, sym}
use Rattle.std.proofs.Common.{ℕ}
use Rattle.mf_flight.specs.declared.slot.Slot.{Slot}
use Rattle.mf_flight.specs.Sheets.{PutsIn}
use Rattle.mf_flight.proofs.Puts.{found, written}
use Rattle.mf_flight.proofs.sheet.set_state.Goals as goal

pub returns-in-Some : goal.returns-in-Some
returns-in-Some g c =
    let value = c.in-Some.ensures.value in
    let new : Slot g.row.P.Denot = record { state = c.args.state; quits = c.in-Some.slot.now.quits } in
    let map = c.get_mut.follows.lender new in
    subst (λ (q : ℕ). PutsIn c.args.slots.now.entries map.entries c.args.index (record { state = c.args.state; quits = q }))
    (ap (λ (s : Slot g.row.P.Denot). s.quits) (sym (found c.args.slots.now.entries c.args.index c.in-Some.slot.now value)))
    (written c.args.slots.now map c.args.index c.in-Some.slot.now new value (c.get_mut.follows.holds new))
