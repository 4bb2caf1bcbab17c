use Rattle.std.proofs.Common.{subst}
use Rattle.mf_plan.specs.Plans.{CompilesTo}
use Rattle.mf_select.proofs.Telling.{rank_tells}
use Rattle.mf_render.proofs.Shown.{valid_can_show}
use Rattle.mf_render.proofs.rendering.shown.Goals as goal

pub format_message-requires-clause-can : goal.format_message-requires-clause-can
format_message-requires-clause-can c =
    valid_can_show c.requires.source c.in-Valid.message (subst (CompilesTo c.requires.source) c.in-Valid.is c.requires.compiles)

pub format_message-requires-clause-tells : goal.format_message-requires-clause-tells
format_message-requires-clause-tells c = rank_tells c.args.«record».now
