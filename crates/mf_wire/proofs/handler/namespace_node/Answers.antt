use Rattle.std.proofs.Common.{Some, ap, sym, ◌∙◌, option_map}
use Rattle.mf_tree.specs.Names.{named}
use Rattle.mf_wire.proofs.handler.namespace_node.Goals as goal

pub returns-in_ok-new-in-Some : goal.returns-in_ok-new-in-Some
returns-in_ok-new-in-Some c = ap Some c.in_ok-new-in-Some.ensures ∙ ap (option_map named) (sym c.in-Some.is)
