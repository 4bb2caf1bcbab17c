use Rattle.std.proofs.Common.{◌≡◌, map, take}
use Rattle.mf_check.specs.KeyValues.{key_value}
use Rattle.mf_check.proofs.variants.key_values.Given as goal

abbrev pub invariant-loop-key : goal.invariant-loop-key
invariant-loop-key l = l.values.items ≡ map key_value (take l.key-index l.keys)
