use Rattle.mf_tree.proofs.Tested.{identifiers, key_lists, keys, names}
use Rattle.mf_tree.proofs.laws.equality_is_tested.Goals as goal

pub returns : goal.returns
returns c = record { names = names; identifiers = identifiers; keys = keys; key_lists = key_lists }
