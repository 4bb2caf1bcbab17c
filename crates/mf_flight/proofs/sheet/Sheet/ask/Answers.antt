use Rattle.std.proofs.Common.{arith}
use Rattle.mf_flight.proofs.Counted.{asked_counted, starts_fit}
use Rattle.mf_flight.proofs.sheet.Sheet.ask.Goals as goal

pub overflow_add-self : goal.overflow_add-self
overflow_add-self g c = omega (arith, starts_fit c.self.inside.slots.entries c.self.inside.starts c.self.inside.quits c.self.invariant)

pub invariant_of-self-2 : goal.invariant_of-self-2
invariant_of-self-2 g c =
    asked_counted c.self.inside.slots.entries c.claim.new.slots.entries c.args.index c.in-Ok.quits c.self.inside.starts c.self.inside.quits
    c.ranges.index.fits c.in-Ok.ensures.idle c.in_ok-claim.ensures.ok c.self.invariant
