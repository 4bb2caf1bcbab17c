use Rattle.std.proofs.Common.{◌++◌, ap, ◌∙◌}
use Rattle.mf_tree.specs.Canonical.{expression_source, variable_source}
use Rattle.mf_print.proofs.Passing.{local_parts}
use Rattle.mf_print.proofs.Words.{dot_local, spaced_equals}
use Rattle.mf_print.proofs.message.push_local.Goals as goal

pub returns : goal.returns
returns c =
    local_parts c.push_expression.result c.args.out.now c.push_str.new.self c.push_variable.new.out c.push_str-2.new.self c.push_expression.new.out
    (variable_source c.args.name.now) (expression_source c.args.expression.now)
    (c.in_ok-push_str.ensures.ok ∙ ap (λ word. c.args.out.now ++ word) dot_local) c.in_ok-push_variable.ensures
    (c.in_ok-push_str-2.ensures.ok ∙ ap (λ word. c.push_variable.new.out ++ word) spaced_equals) c.push_expression.ensures
