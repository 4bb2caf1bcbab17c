use Rattle.std.proofs.Common.{◌≡◌, ◌++◌, drop, map}
use Rattle.std.specs.List.{flat_map}
use Rattle.mf_tree.specs.Faults.{declaration_options, duplicate_options}
use Rattle.mf_check.proofs.options.add_in_declarations.Given as goal

abbrev pub invariant-loop-declaration : goal.invariant-loop-declaration
invariant-loop-declaration l =
    l.found ++ flat_map duplicate_options (map declaration_options (drop l.declaration-index l.declarations)) ≡ l.fn.found ++ flat_map duplicate_options (map declaration_options l.declarations)
