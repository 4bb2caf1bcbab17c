use Rattle.std.proofs.Common.{◌≡◌, drop}
use Rattle.mf_text.specs.Pairs.{in_byte_order, insert_pairs}
use Rattle.mf_wire.proofs.part.in_byte_order.Given as goal

-- the options that are left, put in one after the other, make what all of them make
abbrev pub invariant-loop-option : goal.invariant-loop-option
invariant-loop-option l = insert_pairs l.ordered (drop l.option-index l.option-items) ≡ in_byte_order l.option-items
