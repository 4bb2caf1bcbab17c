use Rattle.std.proofs.Common.{◌-◌, ◌≡◌, ◌≤◌, ◌+◌, vec_len}
use Rattle.mf_serve.specs.Serving.{HasGiven}
use Rattle.mf_serve.specs.Tallies.{sessions}
use Rattle.mf_serve.proofs.connections.take_in.Given as goal

abbrev pub invariant-loop-taken : goal.invariant-loop-taken
invariant-loop-taken g l = (l.crew.job.now ≡ l.initial.crew.job.now)
    × (g.J.Job.owns l.crew.job.now l.home)
    × (g.J.Job.tally l.home ≡ l.crew.tally)
    × (sessions l.crew.tally + vec_len l.crew.running ≡ l.taken)
    × (l.taken ≤ l.limit)
    × (HasGiven l.taken (g.L.Listener.left l.initial.listener) (g.L.Listener.left l.listener))
    × (g.L.Listener.faults l.initial.listener ≤ g.L.Listener.faults l.listener)

abbrev pub decreases-loop-taken : goal.decreases-loop-taken
decreases-loop-taken g l = l.limit - l.taken
