-- For private clauses: which replies have counts.
use Rattle.std.specs.Prelude.{◌≡◌, false, Result, Ok, Err}
use Rattle.mf_wire.specs.declared.request.Request.{Request}
use Rattle.mf_wire.specs.declared.reply.Reply.{Reply}
use Rattle.mf_transcript.specs.Replies.{shows_counts}

-- a line that is refused isn't answered by counts
abbrev pub ShowsNoCounts : Result Request Reply → Type 0
ShowsNoCounts (Ok request) = Unit {0}
ShowsNoCounts (Err refusal) = shows_counts refusal ≡ false
