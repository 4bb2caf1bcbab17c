use Rattle.std.proofs.Common.{length}
use Rattle.mf_core.proofs.tickets.spend_all.Given as goal

abbrev pub decreases-loop-ticket : goal.decreases-loop-ticket
decreases-loop-ticket l = length l.tickets.items
