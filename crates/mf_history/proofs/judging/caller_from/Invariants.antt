use Rattle.std.proofs.Common.{◌≡◌, ◌≤◌, ℕ, [], drop, take}
use Rattle.std.specs.Prelude.{IfSome}
use Rattle.mf_legal.specs.Calls.{made_by}
use Rattle.mf_history.specs.Callers.{IsBelow}
use Rattle.mf_history.specs.Records.{said_by}
use Rattle.mf_history.proofs.judging.caller_from.Given as goal

abbrev pub invariant-loop-transcript : goal.invariant-loop-transcript
invariant-loop-transcript l =
    IfSome l.least (λ caller. l.from ≤ caller)
    × ((caller : ℕ) → l.from ≤ caller → IsBelow l.least caller → said_by caller (take l.transcript-index l.transcripts) ≡ [])

abbrev pub invariant-loop-k : goal.invariant-loop-k
invariant-loop-k l =
    IfSome l.least (λ caller. l.from ≤ caller)
    × ((caller : ℕ) → l.from ≤ caller → IsBelow l.least caller → said_by caller l.transcripts ≡ [])
    × ((caller : ℕ) → l.from ≤ caller → IsBelow l.least caller → made_by caller (drop l.k l.log) ≡ made_by caller l.log)
