use Rattle.mf_flight.specs.Slots.{asked}
use Rattle.mf_flight.proofs.Puts.{first_sheet}
use Rattle.mf_flight.proofs.flights.ask_first.Goals as goal

pub returns-clause-ok : goal.returns-clause-ok
returns-clause-ok g c =
    first_sheet asked c.args.sheets.now c.insert.new.self c.args.edition c.args.index c.new-sheet.result c.ask.new.self
    c.requires c.in_ok-insert.ensures.updates c.new-sheet.ensures c.in_ok-outcome.ensures.ok
