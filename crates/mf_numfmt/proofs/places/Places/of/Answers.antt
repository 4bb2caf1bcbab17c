use Rattle.std.proofs.Common.{◌≡◌, ℕ, ◌∙◌, refl, subst, arith}
use Rattle.mf_numfmt.proofs.Taking.{IsTaken, none_taken, taken_more, taken_below, all_taken, all_counted, all_short}
use Rattle.mf_numfmt.proofs.places.Places.of.Goals as goal

pub loop-wide-init : goal.loop-wide-init
loop-wide-init c = none_taken c.args.number

pub bounds-digits-count : goal.bounds-digits-count
bounds-digits-count c =
    omega (arith, taken_below c.args.number c.loop-wide.count c.loop-wide.wide c.loop-wide.digits c.loop-wide.invariant (omega arith) (omega arith))

pub overflow_add-count : goal.overflow_add-count
overflow_add-count c = omega (arith, bounds-digits-count c)

pub loop-wide-preserved : goal.loop-wide-preserved
loop-wide-preserved c =
    taken_more c.args.number c.loop-wide.count c.loop-wide.wide _ c.loop-wide.digits c.loop-wide.invariant (omega arith) (bounds-digits-count c) refl

pub bounds-digits-count-in-loop-rest : goal.bounds-digits-count-in-loop-rest
bounds-digits-count-in-loop-rest c =
    omega (arith, taken_below c.args.number c.loop-rest.count c.loop-rest.rest c.loop-rest.digits c.loop-rest.invariant (omega arith) (omega arith))

pub overflow_add-count-in-loop-rest : goal.overflow_add-count-in-loop-rest
overflow_add-count-in-loop-rest c = omega (arith, bounds-digits-count-in-loop-rest c)

pub loop-rest-preserved : goal.loop-rest-preserved
loop-rest-preserved c =
    taken_more c.args.number c.loop-rest.count c.loop-rest.rest _ c.loop-rest.digits c.loop-rest.invariant (omega arith) (bounds-digits-count-in-loop-rest c) refl

pub invariant_of-result : goal.invariant_of-result
invariant_of-result c =
    let none : c.loop-rest.rest ≡ 0 = omega arith in
    let taken : IsTaken c.args.number c.loop-rest.digits c.loop-rest.count 0 =
    subst (λ (r : ℕ). IsTaken c.args.number c.loop-rest.digits c.loop-rest.count r) none c.loop-rest.invariant in
    record {
      written = all_taken c.args.number c.loop-rest.count c.loop-rest.digits taken;
      counted = c.max.ensures ∙ all_counted c.args.number c.loop-rest.count c.loop-rest.digits taken (omega arith);
      short = omega (arith, all_short c.args.number c.loop-rest.count c.loop-rest.digits taken (omega arith));
    }
