use Rattle.std.proofs.Common.{◌∙◌, ap, subst}
use Rattle.std.specs.Arc.{arc_value}
use Rattle.mf_flight.specs.Flights.{slot_of}
use Rattle.mf_flight.specs.Slots.{starts_of}
use Rattle.mf_flight.specs.Sums.{IsSum}
use Rattle.mf_edition.proofs.EditionLaws.{newest_number}
use Rattle.mf_hub.specs.Desks.{stat_of}
use Rattle.mf_hub.proofs.Desks.{quits_are, starts_are}
use Rattle.mf_hub.proofs.alone.Alone.stat.Goals as goal

pub returns : goal.returns
returns c =
    let log = c.self.inside.publications in
    let flights = c.self.inside.flights in
    let number = c.number-edition.ensures ∙ ap (λ edition. edition.number) c.newest.ensures in
    let starts = starts_are arc_value log flights c.self.invariant c.totals-starts.result.0
    (subst (λ e. IsSum (λ i. starts_of (slot_of flights e i)) c.totals-starts.result.0) number c.totals-starts.ensures.starts) in
    let quits = quits_are arc_value log flights c.self.invariant c.totals-starts.result.1
    (subst (λ e. IsSum (λ i. (slot_of flights e i).quits) c.totals-starts.result.1) number c.totals-starts.ensures.quits) in
    (λ i. record { edition = (number ∙ newest_number log) i; starts = starts i; quits = quits i }) ∙ ap stat_of c.self.view_is
