use Rattle.std.proofs.Common.{◌≡◌, length, take}
use Rattle.mf_transcript.specs.Transcripts.{stands_at}
use Rattle.mf_history.specs.Records.{said_by}
use Rattle.mf_history.specs.Walks.{Walked}
use Rattle.mf_history.proofs.walking.first_unfit.Given as goal

abbrev pub invariant-loop-transcript : goal.invariant-loop-transcript
invariant-loop-transcript l =
    (l.passed ≡ length (said_by l.caller (take l.transcript-index l.transcripts)))
    × Walked l.most l.log l.caller (said_by l.caller (take l.transcript-index l.transcripts)) (stands_at l.caller l.log 0) l.place
