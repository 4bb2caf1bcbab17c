use Rattle.std.proofs.Common.{take}
use Rattle.mf_select.specs.Stepping.{RanksFront}
use Rattle.mf_select.proofs.keys.rank_keys.Given as goal

abbrev pub invariant-loop-column : goal.invariant-loop-column
invariant-loop-column g l = RanksFront (g.F.Functions.meaning l.fn.functions) l.fn.scope l.scope (take l.column l.values) l.variants l.ranks
