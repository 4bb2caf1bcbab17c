use Rattle.std.proofs.Common.{◌≡◌, ◌++◌, take}
use Rattle.std.specs.List.{flat_map}
use Rattle.mf_tree.specs.Canonical.{declaration_source}
use Rattle.mf_print.proofs.message.push_declarations.Given as goal

abbrev pub invariant-loop-declaration : goal.invariant-loop-declaration
invariant-loop-declaration l = l.out ≡ l.fn.out ++ flat_map declaration_source (take l.declaration-index l.declaration-items)
