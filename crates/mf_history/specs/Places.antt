-- For private clauses: how far along a log a caller has come, and what a line and its reply do to that.
use Rattle.std.specs.Prelude.{◌≡◌, ◌<◌, ◌≤◌, ℕ, nat_lt, Bool, List, [], ◌∷◌, length, take, Option, None, Some, if◌then◌else◌}
use Rattle.std.specs.Bool.{MatchBool}
use Rattle.mf_locale.specs.Chain.{chain_of}
use Rattle.mf_edition.specs.Edition.{edition_of, found_along, EditionState}
use Rattle.mf_edition.specs.Sizes.{most_entries, refusal_of, used_by}
use Rattle.mf_edition.specs.declared.change.Change.{Change}
use Rattle.mf_edition.specs.declared.change.Entry.{Entry}
use Rattle.mf_edition.specs.declared.error.Refusal.{Refusal}
use Rattle.mf_legal.specs.Calls.{entry_at}
use Rattle.mf_transcript.specs.Lines.{ShowsAtMost}
use Rattle.mf_transcript.specs.Replies.{refusal_reply}
use Rattle.mf_transcript.specs.Served.{in_edition, index_of}
use Rattle.mf_transcript.specs.Steps.{next_entry, Standing, Step}
use Rattle.mf_wire.specs.Replies.{op_of, reply_line}
use Rattle.mf_wire.specs.declared.reply.Reply.TheVariants as reply
use Rattle.mf_history.specs.Numbers.{Names}
use Rattle.mf_history.specs.Served.{IsServed}
use Rattle.mf_history.specs.declared.front.Front.{Front}
use Rattle.mf_history.specs.declared.place.Place.{Place}

-- edition k of a log, and the bytes that its changes count for
abbrev pub front_of : List Entry → ℕ → Front
front_of log k = record { edition = edition_of log k; used = used_by (take k log) }

-- it is an edition of the log
pub record IsFront (log : List Entry) (front : Front) : Type 0 where
  pub within : front.edition.number ≤ length log
  pub is : front ≡ front_of log front.edition.number

-- an edition of the log from another on
pub record IsLater (log : List Entry) (old new : Front) : Type 0 where
  pub front : IsFront log new
  pub from : old.edition.number ≤ new.edition.number

-- it is the edition whose changes count for so many bytes, if there is one from the old one on
abbrev pub IsUsing : List Entry → ℕ → Front → Front → Type 0
IsUsing log used old new =
    (k : ℕ) → old.edition.number ≤ k → k ≤ length log → used_by (take k log) ≡ used → new.edition.number ≡ k

-- the place is at an edition of the log, with no more entries made than there are up to it
pub record IsPlace (log : List Entry) (place : Place) : Type 0 where
  pub front : IsFront log place.front
  pub few : place.made ≤ place.front.edition.number

-- the place goes on to an edition from its own on, and forgets the messages of an earlier one
pub record Moves (log : List Entry) (old new : Place) : Type 0 where
  pub later : IsLater log old.front new.front
  pub made : new.made ≡ old.made
  pub keeps : new.front.edition.number ≡ old.front.edition.number → new.served ≡ old.served
  pub clears : old.front.edition.number < new.front.edition.number → new.served.keys ≡ []

-- a caller stands there
pub record StandsAs (log : List Entry) (place : Place) (standing : Standing) : Type 0 where
  pub within : standing.edition ≤ length log
  pub front : place.front ≡ front_of log standing.edition
  pub made : place.made ≡ standing.made
  pub few : standing.made ≤ standing.edition
  pub served : IsServed place.served (in_edition standing.edition standing.served) (length (edition_of log standing.edition).items)
  pub none : (k : ℕ) → standing.edition < k → in_edition k standing.served ≡ []

-- a line and its reply take the caller on to a place, and show no more quits than this
pub record Goes (most : ℕ) (log : List Entry) (caller : ℕ) (line said : List ℕ) (before : Standing) (place : Place) : Type 0 where
  pub after : Standing
  pub step : Step log caller line said before after
  pub quits : ShowsAtMost most said
  pub stands : StandsAs log place after

-- they don't fit
abbrev pub IsStuck : ℕ → List Entry → ℕ → List ℕ → List ℕ → Standing → Type 0
IsStuck most log caller line said before = (after : Standing) → Step log caller line said before after → ShowsAtMost most said → ⊥

-- whether they fit
abbrev pub Reads : ℕ → List Entry → ℕ → List ℕ → List ℕ → Place → Place → Bool → Type 0
Reads most log caller line said old new fits =
    (before : Standing) → StandsAs log old before
    → MatchBool fits (Goes most log caller line said before new) (IsStuck most log caller line said before)

-- the reply accepts a change as edition k, whose entry is the next one of a caller that stands there
pub record IsAcceptedAt (log : List Entry) (caller : ℕ) (place : Place) (change : Change) (said : List ℕ) (k : ℕ) : Type 0 where
  pub above : place.front.edition.number < k
  pub within : k ≤ length log
  pub entry : entry_at log k ≡ Some (next_entry caller place.made change)
  pub replied : said ≡ reply_line (reply.Accepted k (op_of change))

-- the log has all the entries that it may have, and the reply says so
abbrev pub IsFull : List Entry → List ℕ → Type 0
IsFull log said = (most_entries ≤ length log) × (said ≡ reply_line (reply.EditionsFull most_entries))

-- the reply refuses a change at edition k
pub record IsRefusedAt (log : List Entry) (change : Change) (said : List ℕ) (k : ℕ) : Type 0 where
  pub refusal : Refusal
  pub due : refusal_of (take k log) change ≡ Some refusal
  pub replied : said ≡ reply_line (refusal_reply refusal)

-- the reply refuses a change at the edition that the place has gone on to, or at none from its own on
abbrev pub IsRefusedFrom : List Entry → Change → List ℕ → Place → Place → Bool → Type 0
IsRefusedFrom log change said old new is =
    MatchBool is (Moves log old new × IsRefusedAt log change said new.front.edition.number)
    ((k : ℕ) → old.front.edition.number ≤ k → k ≤ length log → IsRefusedAt log change said k → ⊥)

-- where the reply names an edition from the place's own on, that is where the place is afterwards
abbrev pub IsNamed : List Entry → List ℕ → Place → Place → Bool → Type 0
IsNamed log said old new named =
    MatchBool named (Moves log old new × ((k : ℕ) → k ≤ length log → Names k said → new.front.edition.number ≡ k))
    ((k : ℕ) → old.front.edition.number ≤ k → k ≤ length log → Names k said → ⊥)

-- the index of a message that a reply is answered from, if there is one
abbrev pub listed : Option ℕ → List ℕ
listed None = []
listed (Some index) = index ∷ []

-- the message of an edition that a request for a sentence is answered from
abbrev pub served_at : EditionState → List ℕ → List ℕ → ℕ → List ℕ
served_at edition tag id since =
    if nat_lt edition.number since then [] else index_of (found_along edition.items id (chain_of tag))
