use Rattle.std.proofs.lemmas.Result.{on_err_weaker, on_ok_weaker}
use Rattle.mf_flight.specs.Slots.{asked}
use Rattle.mf_flight.proofs.Puts.{keep_sheet, write_sheet}
use Rattle.mf_flight.proofs.flights.ask_among.Goals as goal

pub returns-in-Some-clause-ok : goal.returns-in-Some-clause-ok
returns-in-Some-clause-ok g c =
    on_ok_weaker c.ask.result
    (write_sheet asked c.args.sheets.now (c.get_mut.follows.lender c.ask.new.self) c.args.edition c.args.index c.in-Some.sheet.now
    c.ask.new.self c.in-Some.ensures.value (c.get_mut.follows.holds c.ask.new.self)) c.ask.ensures.ok

pub returns-in-Some-clause-err : goal.returns-in-Some-clause-err
returns-in-Some-clause-err g c =
    on_err_weaker c.ask.result
    (keep_sheet c.args.sheets.now (c.get_mut.follows.lender c.ask.new.self) c.args.edition c.in-Some.sheet.now c.ask.new.self
    c.in-Some.ensures.value (c.get_mut.follows.holds c.ask.new.self)) c.ask.ensures.err
