use Rattle.mf_flight.proofs.Puts.{no_sheet}
use Rattle.mf_flight.proofs.flights.Flights.retire.Goals as goal

pub returns : goal.returns
returns g c = no_sheet c.args.self.now.sheets.entries c.remove.new.self.entries c.args.edition c.remove.ensures.updates.0
