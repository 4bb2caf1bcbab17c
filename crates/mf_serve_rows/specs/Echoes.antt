-- What a session does that sends back what it is sent.
use Rattle.std.specs.Prelude.{ℕ, List, Option, Some, ⊤}
use Rattle.std.specs.Io.KnownBytes.{Appends}
use Rattle.mf_io.specs.declared.statuses.Status.{Status}
use Rattle.mf_io.specs.declared.statuses.Status.TheVariants.{Ended}

-- where it ended, the sink has taken all that the source had left, where both tell
abbrev pub SendsBack : Option (List ℕ) → Option (List ℕ) → Option (List ℕ) → Status → Type 0
SendsBack (Some left) taken now Ended = Appends taken now left
SendsBack left taken now status = ⊤
