use Rattle.std.proofs.Common.{◌∙◌, ap}
use Rattle.mf_flight.specs.declared.slot.Slot.{Slot}
use Rattle.mf_flight.specs.Slots.{quit}
use Rattle.mf_flight.proofs.Puts.{among, write_sheet}
use Rattle.mf_flight.proofs.flights.give_back_among.Goals as goal

pub give_back-requires : goal.give_back-requires
give_back-requires g c =
    ap (λ (s : Slot g.row.P.Denot). s.state) (among c.args.sheets.now.entries c.args.edition c.in-Some.sheet.now c.in-Some.ensures.value c.args.index)
    ∙ c.requires

pub returns-in-Some : goal.returns-in-Some
returns-in-Some g c =
    write_sheet quit c.args.sheets.now (c.get_mut.follows.lender c.give_back.new.self) c.args.edition c.args.index c.in-Some.sheet.now
    c.give_back.new.self c.in-Some.ensures.value (c.get_mut.follows.holds c.give_back.new.self) c.give_back.ensures
