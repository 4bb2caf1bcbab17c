use Rattle.std.proofs.Common.{◌≤◌, ◌-◌, length, vec_len}
use Rattle.std.specs.Vec.{vec_capacity}
use Rattle.mf_io.proofs.Gathering.{Gathering}
use Rattle.mf_io.proofs.whole.read_into.Given as goal

abbrev pub invariant-loop-input : goal.invariant-loop-input
invariant-loop-input g l =
    Gathering (g.S.Source.left l.initial.source) (g.S.Source.left l.source) l.input.items l.cap
    × (g.S.Source.faults l.initial.source ≤ g.S.Source.faults l.source)
    × (1 ≤ length l.buffer)
    × (l.cap ≤ vec_capacity l.input)

abbrev pub decreases-loop-input : goal.decreases-loop-input
decreases-loop-input g l = l.cap - vec_len l.input
