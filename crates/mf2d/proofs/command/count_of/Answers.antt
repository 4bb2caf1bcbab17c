use Rattle.std.proofs.Common.{◌∙◌, ap, arith}
use Rattle.std.specs.List.{slice_get}
use Rattle.mf2d.proofs.Counts.{counts, first_is, no_count, no_count_below, too_many}
use Rattle.mf2d.proofs.command.count_of.Goals as goal

pub returns-then-first-le48 : goal.returns-then-first-le48
returns-then-first-le48 c =
    let at = first_is c.args.word.now c.copied.result (c.copied.ensures ∙ c.first.ensures.value ∙ ap (λ l. slice_get l 0) c.as_bytes.ensures.value) in
    no_count_below c.args.most c.ranges.most.fits c.args.word.now (omega (arith, at, c.unwrap_or-first.ensures, c.if-first-le48.true))

pub returns-in-Ok : goal.returns-in-Ok
returns-in-Ok c =
    let at = first_is c.args.word.now c.copied.result (c.copied.ensures ∙ c.first.ensures.value ∙ ap (λ l. slice_get l 0) c.as_bytes.ensures.value) in
    counts c.args.most c.ranges.most.fits c.args.word.now c.parse.result c.parse.ensures.value.0 c.in-Ok.count c.in-Ok.is (omega (arith, at, c.unwrap_or-first.ensures, c.if-first-le48.false))
    c.if-count-most.true

pub returns-in_default : goal.returns-in_default
returns-in_default c =
    too_many c.args.most c.ranges.most.fits c.args.word.now c.parse.result c.parse.ensures.value.0 c.in-Ok.count c.in-Ok.is c.if-count-most.false

pub returns-in_default-2 : goal.returns-in_default-2
returns-in_default-2 c = no_count c.args.most c.ranges.most.fits c.args.word.now c.parse.result c.parse.ensures.value.0 c.in_default.field-0 c.in_default.is
