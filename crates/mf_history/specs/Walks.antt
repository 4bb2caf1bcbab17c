-- For private clauses: lines of a caller, read one after the other.
use Rattle.std.specs.Prelude.{◌≡◌, ℕ, List, [], take, slice_get, encode_utf8_all, Option, None, Some}
use Rattle.mf_edition.specs.Edition.{empty_edition}
use Rattle.mf_edition.specs.declared.change.Entry.{Entry}
use Rattle.mf_transcript.specs.Steps.{Standing}
use Rattle.mf_history.specs.Places.{IsStuck, StandsAs}
use Rattle.mf_history.specs.Verdicts.{Takes}
use Rattle.mf_history.specs.declared.place.Place.{Place}
use Rattle.mf_history.specs.declared.transcript.Exchange.{Exchange}

-- a caller may stand there
pub record Stands (log : List Entry) (place : Place) : Type 0 where
  pub standing : Standing
  pub stands : StandsAs log place standing

-- the place before the first line
pub record IsStart (place : Place) : Type 0 where
  pub edition : place.front.edition ≡ empty_edition
  pub used : place.front.used ≡ 0
  pub made : place.made ≡ 0
  pub served : place.served.keys ≡ []

-- lines take a caller on to a place
pub record Walked (most : ℕ) (log : List Entry) (caller : ℕ) (exchanges : List Exchange) (before : Standing) (place : Place) : Type 0 where
  pub after : Standing
  pub takes : Takes most log caller exchanges before after
  pub stands : StandsAs log place after

-- so many lines take a caller on, and the next one doesn't fit
pub record Stops (most : ℕ) (log : List Entry) (caller : ℕ) (exchanges : List Exchange) (before : Standing) (passed : ℕ) : Type 0 where
  pub between : Standing
  pub takes : Takes most log caller (take passed exchanges) before between
  pub next : Exchange
  pub there : slice_get exchanges passed ≡ Some next
  pub stuck : IsStuck most log caller next.request (encode_utf8_all next.reply) between

-- lines that all fit, or so many of them before the first that doesn't
abbrev pub Walks : ℕ → List Entry → ℕ → List Exchange → Place → Place → Option ℕ → Type 0
Walks most log caller exchanges old new None = (before : Standing) → StandsAs log old before → Walked most log caller exchanges before new
Walks most log caller exchanges old new (Some passed) = (before : Standing) → StandsAs log old before → Stops most log caller exchanges before passed
