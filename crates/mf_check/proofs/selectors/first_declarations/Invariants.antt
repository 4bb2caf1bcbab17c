use Rattle.std.proofs.Common.{take}
use Rattle.mf_check.specs.Annotations.{HasFirst}
use Rattle.mf_check.proofs.selectors.first_declarations.Given as goal

abbrev pub invariant-loop-declaration : goal.invariant-loop-declaration
invariant-loop-declaration l = HasFirst (take l.declaration-index l.declarations) l.first
