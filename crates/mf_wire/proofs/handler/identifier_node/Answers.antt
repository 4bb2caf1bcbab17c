use Rattle.mf_wire.proofs.handler.identifier_node.Goals as goal

pub returns : goal.returns
returns c = λ i. record { namespace = c.in_ok-namespace.ensures i; name = c.in_ok-name.ensures i }
