use Rattle.mf_flight.proofs.sheet.Sheet.totals.Goals as goal

pub returns-clause-quits : goal.returns-clause-quits
returns-clause-quits g c = rw (← c.self.view_is) c.self.invariant.given_back
