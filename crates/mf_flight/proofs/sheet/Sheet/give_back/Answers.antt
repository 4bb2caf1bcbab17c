use Rattle.std.proofs.Common.{◌≡◌, ◌∙◌, sym, arith}
use Rattle.mf_flight.specs.declared.slot.State.TheVariants.{Claimed}
use Rattle.mf_flight.specs.Sheets.{slot_in}
use Rattle.mf_flight.proofs.Counted.{quit_counted, quit_counted_full, quit_has, quits_fit}
use Rattle.mf_flight.proofs.sheet.Sheet.give_back.Goals as goal

pub overflow_add-self : goal.overflow_add-self
overflow_add-self g c = omega (arith, quits_fit c.self.inside.slots.entries c.self.inside.starts c.self.inside.quits c.self.invariant)

pub invariant_of-self : goal.invariant_of-self
invariant_of-self g c =
    let claimed : (slot_in c.self.inside.slots.entries c.args.index).state ≡ Claimed = rw c.self.view_is c.requires in
    quit_counted c.self.inside.slots.entries c.raise_quits.new.slots.entries c.args.index c.self.inside.starts c.self.inside.quits
    c.ranges.index.fits claimed (sym c.raise_quits.ensures.raised ∙ c.if-raise_quits.true) c.raise_quits.ensures.puts c.self.invariant

pub overflow_sub-self : goal.overflow_sub-self
overflow_sub-self g c =
    let claimed : (slot_in c.self.inside.slots.entries c.args.index).state ≡ Claimed = rw c.self.view_is c.requires in
    quit_has c.self.inside.slots.entries c.args.index c.self.inside.starts c.self.inside.quits claimed c.self.invariant

pub invariant_of-self-else-raise_quits : goal.invariant_of-self-else-raise_quits
invariant_of-self-else-raise_quits g c =
    let claimed : (slot_in c.self.inside.slots.entries c.args.index).state ≡ Claimed = rw c.self.view_is c.requires in
    quit_counted_full c.self.inside.slots.entries c.raise_quits.new.slots.entries c.args.index c.self.inside.starts c.self.inside.quits
    c.ranges.index.fits claimed (sym c.raise_quits.ensures.raised ∙ c.if-raise_quits.false) c.raise_quits.ensures.puts c.self.invariant
