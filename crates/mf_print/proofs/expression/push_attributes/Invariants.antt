use Rattle.std.proofs.Common.{◌≡◌, ◌++◌, drop}
use Rattle.std.specs.List.{flat_map}
use Rattle.mf_tree.specs.Canonical.{attribute_source}
use Rattle.mf_print.proofs.expression.push_attributes.Given as goal

abbrev pub invariant-loop-attribute : goal.invariant-loop-attribute
invariant-loop-attribute l = l.out ++ flat_map attribute_source (drop l.attribute-index l.attribute-items) ≡ l.fn.out ++ flat_map attribute_source l.attribute-items
