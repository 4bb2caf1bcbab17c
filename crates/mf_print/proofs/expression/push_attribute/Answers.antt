use Rattle.std.proofs.Common.{◌++◌, ◌∷◌, [], ap, ◌∙◌}
use Rattle.mf_tree.specs.Canonical.{identifier_source, attribute_value_source}
use Rattle.mf_print.proofs.Passing.{three_parts}
use Rattle.mf_print.proofs.Words.{spaced_at}
use Rattle.mf_print.proofs.expression.push_attribute.Goals as goal

pub returns : goal.returns
returns c =
    let node = c.args.attribute.now in
    three_parts c.push_attribute_value.result c.args.out.now c.push_str.new.self c.push_identifier.new.out c.push_attribute_value.new.out
    (0x20 ∷ 0x40 ∷ []) (identifier_source node.name) (attribute_value_source node.value)
    (c.in_ok-push_str.ensures.ok ∙ ap (λ word. c.args.out.now ++ word) spaced_at) c.in_ok-push_identifier.ensures c.push_attribute_value.ensures
