use Rattle.std.proofs.Common.{rules, sym, subst, length, slice_index_or, ◌<◌}
use Rattle.mf_render.specs.Showing.{Finds}
use Rattle.mf_render.proofs.Chosen.{chosen_inside, finds_pattern, finds_variant}
use Rattle.mf_render.proofs.message.chosen_pattern.Goals as goal

pub bounds-as_slice-chosen : goal.bounds-as_slice-chosen
bounds-as_slice-chosen g c =
    let inside = chosen_inside (g.F.Functions.meaning c.args.functions.now) c.args.scope.now c.choose.new.scope c.in-Match.selectors c.in-Match.variants c.in_ok-chosen-in-Match.chosen
    c.requires.gathers c.in_ok-chosen-in-Match.ensures in
    subst (λ variants. c.in_ok-chosen-in-Match.chosen < length variants) (sym c.as_slice.ensures) inside

pub offset_bounds-as_slice-chosen : goal.offset_bounds-as_slice-chosen
offset_bounds-as_slice-chosen g c =
    let inside = bounds-as_slice-chosen g c in
    search rules

pub returns-in-Pattern : goal.returns-in-Pattern
returns-in-Pattern g c =
    finds_pattern (g.F.Functions.meaning c.args.functions.now) c.args.scope.now c.args.scope.now c.args.body.now c.in-Pattern.pattern c.in-Pattern.is

pub returns-in_ok-chosen-in-Match : goal.returns-in_ok-chosen-in-Match
returns-in_ok-chosen-in-Match g c =
    let meaning = g.F.Functions.meaning c.args.functions.now in
    subst (λ variants. Finds meaning c.args.scope.now c.choose.new.scope c.args.body.now (slice_index_or variants c.in_ok-chosen-in-Match.chosen c.index-as_slice-chosen.result).pattern) (sym c.as_slice.ensures)
    (finds_variant meaning c.args.scope.now c.choose.new.scope c.args.body.now c.in-Match.selectors c.in-Match.variants c.in_ok-chosen-in-Match.chosen c.index-as_slice-chosen.result
    c.in-Match.is c.requires.tells c.requires.gathers c.in_ok-chosen-in-Match.ensures)
