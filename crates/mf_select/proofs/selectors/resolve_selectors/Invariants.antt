use Rattle.std.proofs.Common.{take}
use Rattle.mf_select.specs.Stepping.{ResolvesSelectors}
use Rattle.mf_select.proofs.selectors.resolve_selectors.Given as goal

abbrev pub invariant-loop-name : goal.invariant-loop-name
invariant-loop-name g l = ResolvesSelectors (g.F.Functions.meaning l.fn.functions) l.fn.scope l.scope (take l.name-index l.selectors) l.values
