use Rattle.std.proofs.Common.{◌≡◌, ◌+◌, vec_len}
use Rattle.mf_serve.specs.Tallies.{sessions}
use Rattle.mf_serve.proofs.crew.Crew.finish.Given as goal

abbrev pub invariant-loop-running : goal.invariant-loop-running
invariant-loop-running g l = (l.crew.job.now ≡ l.initial.crew.job.now)
    × (g.J.Job.owns l.crew.job.now l.home)
    × (g.J.Job.tally l.home ≡ l.crew.tally)
    × (sessions l.crew.tally + vec_len l.crew.running ≡ sessions l.initial.crew.tally + vec_len l.initial.crew.running)

abbrev pub decreases-loop-running : goal.decreases-loop-running
decreases-loop-running g l = vec_len l.crew.running
