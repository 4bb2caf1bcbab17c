use Rattle.std.proofs.Common.{◌∙◌}
use Rattle.mf_plan.proofs.Computed.{limit_text}
use Rattle.mf_plan.proofs.compiling.declarations.Goals as goal

pub returns : goal.returns
returns c = c.in_ok-text.ensures ∙ limit_text
