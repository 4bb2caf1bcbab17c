use Rattle.std.proofs.Common.{rules}
use Rattle.mf_queue.proofs.Keeps.{joins}
use Rattle.mf_queue.proofs.Seats.{is_idle}
use Rattle.mf_queue.proofs.queue.Queue.join.Goals as goal

pub join_seat-requires : goal.join_seat-requires
join_seat-requires g c = let idle = is_idle _ _ c.requires.idle.0 c.requires.idle.1 in
    (search rules, search rules, idle.1, search rules, joins _ _ _ _ _ _ _ _ idle.0 c.requires.may)
