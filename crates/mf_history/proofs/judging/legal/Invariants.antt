use Rattle.std.proofs.Common.{◌≤◌, ◌<◌, ◌-◌, ◌^◌, ℕ}
use Rattle.mf_history.specs.Records.{said_by}
use Rattle.mf_history.specs.Verdicts.{Fits}
use Rattle.mf_history.proofs.judging.legal.Given as goal

abbrev pub invariant-loop-caller : goal.invariant-loop-caller
invariant-loop-caller l = (l.from ≤ 2 ^ 64) × ((caller : ℕ) → caller < l.from → Fits l.most l.log caller (said_by caller l.transcripts))

abbrev pub decreases-loop-caller : goal.decreases-loop-caller
decreases-loop-caller l = 2 ^ 64 - l.from
