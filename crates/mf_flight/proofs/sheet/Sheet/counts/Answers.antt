use Rattle.std.proofs.Common.{◌≡◌, ap, arith}
use Rattle.mf_flight.specs.declared.slot.Slot.{Slot}
use Rattle.mf_flight.specs.Sheets.{slot_in}
use Rattle.mf_flight.proofs.Counted.{taken_le}
use Rattle.mf_flight.proofs.Puts.{found}
use Rattle.mf_flight.proofs.sheet.Sheet.counts.Goals as goal

pub overflow_add-result : goal.overflow_add-result
overflow_add-result g c =
    let is = found c.self.inside.slots.entries c.args.index c.in-Some.slot.now c.in-Some.ensures.value in
    let same : (slot_in c.self.inside.slots.entries c.args.index).quits ≡ c.in-Some.slot.now.quits = ap (λ (s : Slot g.row.P.Denot). s.quits) is in
    let small = c.self.invariant.small c.args.index in
    let one = taken_le c.in-Some.slot.now.state in
    omega (arith, c.taken.ensures)
