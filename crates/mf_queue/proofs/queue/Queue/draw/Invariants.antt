use Rattle.std.proofs.Common.{◌≡◌, None}
use Rattle.mf_queue.specs.Queue.{view, taken, IsAtRest, IsSameSeat}
use Rattle.mf_queue.proofs.queue.Queue.draw.Given as goal

abbrev pub invariant-loop : goal.invariant-loop
invariant-loop g l = IsSameSeat l.initial.seat l.seat × (view l.seat ≡ view l.initial.seat) × IsAtRest l.seat × (taken l.seat ≡ None)
