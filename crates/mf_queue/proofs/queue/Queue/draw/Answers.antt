use Rattle.std.proofs.Common.{rules, refl, arith}
use Rattle.mf_queue.proofs.Keeps.{draws}
use Rattle.mf_queue.proofs.Seats.{is_idle}
use Rattle.mf_queue.proofs.queue.Queue.draw.Goals as goal

pub compare_exchange-found-requires : goal.compare_exchange-found-requires
compare_exchange-found-requires g c = let i = c.loop.invariant in
    (search rules, search rules, draws _ _ _ _ _ _ _ (is_idle _ _ i.2 i.3).0 refl (omega arith))
