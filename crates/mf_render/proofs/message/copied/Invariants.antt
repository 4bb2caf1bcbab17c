use Rattle.std.proofs.Common.{◌≡◌, take}
use Rattle.mf_render.proofs.message.copied.Given as goal

abbrev pub invariant-loop-fault : goal.invariant-loop-fault
invariant-loop-fault l = l.copy ≡ take l.fault-index l.fault-items
