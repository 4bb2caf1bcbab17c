use Rattle.std.proofs.Common.{take}
use Rattle.mf_select.specs.Stepping.{RanksColumn}
use Rattle.mf_select.proofs.keys.rank_column.Given as goal

abbrev pub invariant-loop-variant : goal.invariant-loop-variant
invariant-loop-variant g l =
    RanksColumn (g.F.Functions.meaning l.fn.functions) l.fn.scope l.scope l.column l.value (take l.variant-index l.variants) l.fn.ranks l.ranks
