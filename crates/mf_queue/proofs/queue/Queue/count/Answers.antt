use Rattle.std.proofs.Common.{rules}
use Rattle.mf_queue.proofs.Keeps.{counts}
use Rattle.mf_queue.proofs.queue.Queue.count.Goals as goal

pub load-requires : goal.load-requires
load-requires g c = (search rules, search rules, counts _ _ g.M.Learning.then _ _ _ c.requires.may)
