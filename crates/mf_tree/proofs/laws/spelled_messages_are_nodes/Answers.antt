use Rattle.mf_tree.proofs.Nodes.{message}
use Rattle.mf_tree.proofs.laws.spelled_messages_are_nodes.Goals as goal

pub returns : goal.returns
returns c = message
