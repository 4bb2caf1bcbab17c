-- For private clauses: what the replies of a run come to, in numbers.
use Rattle.std.specs.Prelude.{◌≡◌, ℕ, List, [], codes}
use Rattle.mf_transcript.specs.Laws.{HasNoMemoryLine}
use Rattle.mf_wire.specs.Lines.{lines_of}
use Rattle.mf_wire.specs.Reading.{reading}
use Rattle.mf_mill.specs.Summaries.{last_of, number_in, text_bytes}
use Rattle.mf_mill.specs.declared.tally.Tally.{Tally}

-- these are the numbers of the lines of an output, none of which is the memory line
pub record IsTally (output : List ℕ) (tally : Tally) : Type 0 where
  pub no_memory : HasNoMemoryLine (lines_of output)
  pub editions : tally.editions ≡ number_in (codes "edition") (reading (last_of [] (lines_of output)))
  pub starts : tally.starts ≡ number_in (codes "starts") (reading (last_of [] (lines_of output)))
  pub bytes : tally.text_bytes ≡ text_bytes (lines_of output)
