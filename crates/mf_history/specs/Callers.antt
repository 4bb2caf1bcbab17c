-- For private clauses: callers that have neither entries nor lines.
use Rattle.std.specs.Prelude.{◌≡◌, ◌<◌, ℕ, List, [], Option, MatchOption}
use Rattle.mf_edition.specs.declared.change.Entry.{Entry}
use Rattle.mf_legal.specs.Calls.{made_by}
use Rattle.mf_history.specs.Records.{said_by}
use Rattle.mf_history.specs.declared.transcript.Transcript.{Transcript}

-- the caller is below the one that was found, if one was
abbrev pub IsBelow : Option ℕ → ℕ → Type 0
IsBelow least caller = MatchOption least (Unit {0}) (λ found. caller < found)

-- the caller has no entry and no line
abbrev pub HasNothing : List Entry → List Transcript → ℕ → Type 0
HasNothing log transcripts caller = (made_by caller log ≡ 0) × (said_by caller transcripts ≡ [])
