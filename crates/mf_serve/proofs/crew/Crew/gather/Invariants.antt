use Rattle.std.proofs.Common.{◌≡◌, ◌+◌, ◌-◌, vec_len}
use Rattle.mf_serve.specs.Tallies.{sessions}
use Rattle.mf_serve.proofs.crew.Crew.gather.Given as goal

abbrev pub invariant-loop-at : goal.invariant-loop-at
invariant-loop-at g l = (l.self.job.now ≡ l.initial.self.job.now)
    × (g.J.Job.owns l.self.job.now l.home)
    × (g.J.Job.tally l.home ≡ l.self.tally)
    × (sessions l.self.tally + vec_len l.self.running ≡ sessions l.initial.self.tally + vec_len l.initial.self.running)

abbrev pub decreases-loop-at : goal.decreases-loop-at
decreases-loop-at g l = vec_len l.self.running - l.at
