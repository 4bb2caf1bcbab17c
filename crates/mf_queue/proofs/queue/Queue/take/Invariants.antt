use Rattle.std.proofs.Common.{◌≡◌}
use Rattle.mf_queue.specs.Queue.{view, IsSameSeat, IsWaiting}
use Rattle.mf_queue.proofs.queue.Queue.take.Given as goal

abbrev pub invariant-loop : goal.invariant-loop
invariant-loop g l = IsSameSeat l.initial.seat l.seat × (view l.seat ≡ view l.initial.seat) × IsWaiting l.seat l.place
