use Rattle.mf_flight.specs.declared.slot.Slot.{Slot}
use Rattle.mf_flight.specs.declared.slot.State.TheVariants.{Claimed}
use Rattle.mf_flight.proofs.Puts.{updated}
use Rattle.mf_flight.proofs.sheet.claim.Goals as goal

pub returns-clause-ok : goal.returns-clause-ok
returns-clause-ok g c =
    let slot : Slot g.row.P.Denot = record { state = Claimed; quits = c.args.quits } in
    updated c.args.slots.now c.insert.new.self c.args.index slot c.in_ok-insert.ensures.updates
