use Rattle.std.proofs.Common.{◌∙◌, ap}
use Rattle.mf_flight.specs.declared.slot.Slot.{Slot}
use Rattle.mf_flight.specs.Slots.{done}
use Rattle.mf_flight.proofs.Puts.{among, write_sheet}
use Rattle.mf_flight.proofs.flights.finish_among.Goals as goal

pub finish-requires : goal.finish-requires
finish-requires g c =
    ap (λ (s : Slot g.row.P.Denot). s.state) (among c.args.sheets.now.entries c.args.edition c.in-Some.sheet.now c.in-Some.ensures.value c.args.index)
    ∙ c.requires

pub returns-in-Some : goal.returns-in-Some
returns-in-Some g c =
    write_sheet (λ (s : Slot g.row.P.Denot). done s c.args.plan) c.args.sheets.now (c.get_mut.follows.lender c.finish.new.self) c.args.edition c.args.index c.in-Some.sheet.now
    c.finish.new.self c.in-Some.ensures.value (c.get_mut.follows.holds c.finish.new.self) c.finish.ensures
