use Rattle.std.proofs.Common.{◌≡◌, ◌+◌, [], length}
use Rattle.mf_transcript.specs.Laws.{HasNoMemoryLine}
use Rattle.mf_wire.specs.Lines.{lines_of}
use Rattle.mf_mill.specs.Summaries.{last_of, text_bytes}
use Rattle.mf_mill.proofs.tally.tally_of.Given as goal

-- what the lines so far come to, and those that are left, is what all come to
abbrev pub invariant-lines : goal.invariant-lines
invariant-lines l =
    (last_of l.last (lines_of l.rest) ≡ last_of [] (lines_of l.fn.replies))
    × (l.text_bytes + text_bytes (lines_of l.rest) ≡ text_bytes (lines_of l.fn.replies))
    × (HasNoMemoryLine (lines_of l.rest) → HasNoMemoryLine (lines_of l.fn.replies))

abbrev pub decreases-lines : goal.decreases-lines
decreases-lines l = length l.rest
