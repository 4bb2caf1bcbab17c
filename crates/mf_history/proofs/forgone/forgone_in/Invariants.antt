use Rattle.std.proofs.Common.{◌≡◌, ◌+◌, drop}
use Rattle.mf_history.specs.Forgone.{forgone_total}
use Rattle.mf_history.proofs.forgone.forgone_in.Given as goal

abbrev pub invariant-loop-transcript : goal.invariant-loop-transcript
invariant-loop-transcript l = l.count + forgone_total (drop l.transcript-index l.transcripts) ≡ forgone_total l.transcripts
