use Rattle.std.proofs.Common.{◌++◌, ap, ◌∙◌, codes}
use Rattle.mf_tree.specs.Canonical.{expression_source}
use Rattle.mf_print.proofs.Passing.{two_parts}
use Rattle.mf_print.proofs.Words.{dot_input}
use Rattle.mf_print.proofs.message.push_input.Goals as goal

pub returns : goal.returns
returns c =
    two_parts c.push_expression.result c.args.out.now c.push_str.new.self c.push_expression.new.out
    (codes ".input ") (expression_source c.args.expression.now)
    (c.in_ok-push_str.ensures.ok ∙ ap (λ word. c.args.out.now ++ word) dot_input) c.push_expression.ensures
