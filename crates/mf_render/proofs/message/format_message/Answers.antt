use Rattle.mf_render.proofs.Shown.{shown_message}
use Rattle.mf_render.proofs.message.format_message.Goals as goal

pub chosen_pattern-requires-clause-gathers : goal.chosen_pattern-requires-clause-gathers
chosen_pattern-requires-clause-gathers g c = c.in_ok-scope.ensures.gathers (g.F.Functions.meaning c.args.functions.now)

pub returns : goal.returns
returns g c =
    shown_message c.args.«record».now (g.F.Functions.meaning c.args.functions.now) c.args.arguments.now c.args.message.now
    c.in_ok-scope.scope c.chosen_pattern.new.scope c.pattern_parts.new.scope c.in_ok-pattern.pattern.now c.in_ok-parts.parts c.into_faults.result
    c.in_ok-scope.ensures c.in_ok-pattern.ensures c.in_ok-parts.ensures c.into_faults.ensures
