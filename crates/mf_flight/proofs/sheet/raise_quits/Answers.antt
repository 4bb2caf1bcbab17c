use Rattle.std.proofs.Common.{ap, subst, sym, ◌∙◌, ◌+◌, min}
use Rattle.std.proofs.Common.{ℕ}
use Rattle.mf_flight.specs.declared.slot.Slot.{Slot}
use Rattle.mf_flight.specs.declared.slot.State.TheVariants.{Idle}
use Rattle.mf_flight.specs.Sheets.{PutsIn}
use Rattle.mf_flight.proofs.Puts.{found, written}
use Rattle.mf_flight.proofs.sheet.raise_quits.Goals as goal

pub returns-in-Some-clause-puts : goal.returns-in-Some-clause-puts
returns-in-Some-clause-puts g c =
    let value = c.in-Some.ensures.value in
    let new : Slot g.row.P.Denot = record { state = Idle; quits = c.min-slot.result } in
    let map = c.get_mut.follows.lender new in
    subst (λ (q : ℕ). PutsIn c.args.slots.now.entries map.entries c.args.index (record { state = Idle; quits = q }))
    (c.min-slot.ensures ∙ ap (λ (s : Slot g.row.P.Denot). min (s.quits + 1) 2147483647) (sym (found c.args.slots.now.entries c.args.index c.in-Some.slot.now value)))
    (written c.args.slots.now map c.args.index c.in-Some.slot.now new value (c.get_mut.follows.holds new))
