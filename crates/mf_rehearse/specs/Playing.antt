-- For private clauses: callers that send their requests.
use Rattle.std.specs.Prelude.{◌≡◌, ℕ, List, [], None, Some}
use Rattle.std.specs.List.{AllByRecursion}
use Rattle.atomic_table.specs.Seated.{TableId}
use Rattle.mf_hub.specs.Passes.{HasMadeAll, Known, PassState}
use Rattle.mf_lines.specs.Cut.{IsLine}
use Rattle.mf_lines.specs.Served.{written}
use Rattle.mf_session.specs.Sharing.{IsFree, Told}
use Rattle.mf_wire.specs.Lines.{lines_of}
use Rattle.mf_rehearse.specs.Played.{Part, Plays}
use Rattle.mf_rehearse.specs.declared.playing.Played.{Played}
use Rattle.mf_rehearse.specs.Rehearsals.{rehearse_caps}

-- a caller that made nothing, gave no ticket back, and that nobody left into
pub record IsBlank (p : Known) : Type 0 where
  pub made : p.made ≡ 0
  pub given : p.given ≡ 0
  pub ended : p.ended ≡ []

-- a pass of the hub whose caller is such a one
pub record IsReady (hub : TableId) (p : PassState) : Type 0 where
  pub own : p.hub ≡ hub
  pub blank : IsBlank p.view
  pub all : HasMadeAll p.view

-- each line is one, and not too long
abbrev pub AreShort : List (List ℕ) → Type 0
AreShort lines = AllByRecursion (IsLine rehearse_caps.line) lines

-- the lines of what was sent were answered by what was written
pub record IsTold (p : PassState) (sent said : List ℕ) (q : PassState) : Type 0 where
  pub replies : List (List ℕ)
  pub told : Told p (lines_of sent) replies q
  pub is : said ≡ written replies
  pub free : IsFree q.view
  pub all : HasMadeAll q.view

-- it has sent its requests among these lines, and its pass can leave
pub record HasPlayed (hub : TableId) (lines : List (List ℕ)) (played : Played) : Type 0 where
  pub own : played.pass.hub ≡ hub
  pub pin : played.pass.view.pin ≡ None
  pub ended : played.pass.view.ended ≡ []
  pub part : Part
  pub number : part.number ≡ played.number
  pub number_is : played.pass.view.number ≡ Some part.number
  pub replies : played.replies.taken ≡ written part.replies
  pub log : part.log ≡ played.pass.view.log
  pub made : part.made ≡ played.pass.view.made
  pub given : part.given ≡ played.pass.view.given
  pub heard : part.heard ≡ played.pass.view.heard
  pub plays : Plays lines part
