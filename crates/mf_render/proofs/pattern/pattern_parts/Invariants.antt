use Rattle.std.proofs.Common.{take}
use Rattle.mf_render.specs.Showing.{GivesParts}
use Rattle.mf_render.proofs.pattern.pattern_parts.Given as goal

abbrev pub invariant-loop-piece : goal.invariant-loop-piece
invariant-loop-piece g l = GivesParts l.«record» (g.F.Functions.meaning l.fn.functions) l.fn.scope l.scope (take l.piece-index l.piece-items) l.parts
