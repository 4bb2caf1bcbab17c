use Rattle.std.proofs.Common.{◌≡◌, ◌++◌, take}
use Rattle.std.specs.List.{flat_map}
use Rattle.mf_tree.specs.Canonical.{further_key_source}
use Rattle.mf_print.proofs.message.push_further_keys.Given as goal

abbrev pub invariant-loop-key : goal.invariant-loop-key
invariant-loop-key l = l.out ≡ l.fn.out ++ flat_map further_key_source (take l.key-index l.keys)
