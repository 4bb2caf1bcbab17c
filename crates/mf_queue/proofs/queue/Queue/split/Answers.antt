use Rattle.std.proofs.Common.{rules}
use Rattle.mf_queue.proofs.Keeps.{splits}
use Rattle.mf_queue.proofs.queue.Queue.split.Goals as goal

pub split_seat-requires : goal.split_seat-requires
split_seat-requires g c = (search rules, search rules, splits _ _ _ _ _ _ c.requires.may)
