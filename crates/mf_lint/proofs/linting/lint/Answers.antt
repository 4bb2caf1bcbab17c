use Rattle.std.proofs.Common.{chars, subst}
use Rattle.mf_plan.specs.Plans.{CompilesTo}
use Rattle.mf_lint.proofs.Lints.{valid_computed}
use Rattle.mf_lint.proofs.linting.lint.Goals as goal

pub returns-in_ok-print-in-Valid-clause-computed : goal.returns-in_ok-print-in-Valid-clause-computed
returns-in_ok-print-in-Valid-clause-computed c =
    valid_computed (chars c.args.source.now) c.in-Valid.message c.in_ok-print-in-Valid.field-0
    (subst (CompilesTo (chars c.args.source.now)) c.in-Valid.is c.in_ok-message.ensures.compiled) c.in_ok-print-in-Valid.ensures.canonical
