-- What holds of every session with the one caller of a desk.
use Rattle.std.specs.Prelude.{◌≡◌, ◌⊎◌, ℕ, List, Option}
use Rattle.mf_io.specs.declared.bounds.Caps.{Caps}
use Rattle.mf_lines.specs.Cut.{IsLine, IsTooLong}
use Rattle.mf_lines.specs.Served.{written}
use Rattle.mf_lines.specs.Sessions.{Ends, Takes}
use Rattle.mf_transcript.specs.Laws.{HasNoMemoryLine}
use Rattle.mf_transcript.specs.Sole.{Desk, Sole}

-- two sessions over one desk that read the same input to its end, in whatever pieces, wrote the same and left the same log, where no
-- line found no memory
abbrev pub WholeInputsHaveOneOutput : Type 0
WholeInputsHaveOneOutput =
    (caps : Caps) (desk one other : Desk) (left left' taken taken' source source' sink sink' : Option (List ℕ))
    (a : Ends Sole caps desk one left left' taken taken') (b : Ends Sole caps desk other source source' sink sink')
    → a.input ≡ b.input → HasNoMemoryLine a.answers.replies → HasNoMemoryLine b.answers.replies
    → (written a.answers.replies ≡ written b.answers.replies) × (one.log ≡ other.log)

-- and so did two sessions that took the same bytes, and then were stopped by their source or by a cap
abbrev pub CutInputsHaveOneOutput : Type 0
CutInputsHaveOneOutput =
    (caps : Caps) (desk one other : Desk) (left left' taken taken' source source' sink sink' : Option (List ℕ)) (input rest more : List ℕ)
    (a : Takes Sole caps desk one left left' taken taken' input rest) (b : Takes Sole caps desk other source source' sink sink' input more)
    → IsLine caps.line rest ⊎ IsTooLong caps.line rest → IsLine caps.line more ⊎ IsTooLong caps.line more
    → HasNoMemoryLine a.answers.replies → HasNoMemoryLine b.answers.replies
    → (written a.answers.replies ≡ written b.answers.replies) × (one.log ≡ other.log)
