-- What the calls of a hub promise of a pass: of what its caller knew before and knows after.
use Rattle.std.specs.Prelude.{◌≡◌, ◌+◌, ◌^◌, ◌<◌, ◌≤◌, ℕ, List, [], ◌∷◌, ◌++◌, length, Contains, None, Some}
use Rattle.atomic_table.specs.Seated.{TableId}
use Rattle.mf_edition.specs.Edition.{edition_of, newest_edition}
use Rattle.mf_edition.specs.declared.change.Change.{Change}
use Rattle.mf_edition.specs.declared.change.Entry.{Entry}
use Rattle.mf_io.specs.declared.passes.PassError.{PassError}
use Rattle.mf_io.specs.declared.passes.PassError.TheVariants.{CallersFull, OutOfMemory}
use Rattle.mf_plan.specs.declared.plan.Plan.{Plan}
use Rattle.mf_transcript.specs.Served.{count_among, in_edition}
use Rattle.mf_transcript.specs.Steps.{next_entry}
use Rattle.mf_turn.specs.Account.{entries_by}
use Rattle.mf_turn.specs.Acts.{left_behind}
use Rattle.mf_turn.specs.Rule.{numbers}
use Rattle.mf_turn.specs.Sums.{once_below, times, total, Each, StartsWith}
use Rattle.mf_turn.specs.declared.view.Ended.{Ended}
use Rattle.mf_turn.specs.declared.view.View.{View}
use Rattle.mf_hub.specs.declared.error.CloseError.{CloseError}
use Rattle.mf_hub.specs.declared.error.CloseError.TheVariants.{Others}
use Rattle.mf_hub.specs.declared.stat.Stat.{Stat}
use Rattle.mf_hub.specs.Desks.{IsPlanAt}
use Rattle.mf_hub.specs.Stores.{caller_of}

-- what a caller knows: its number, the entries that it has seen, how many of them are its own, the edition that it has pinned, how
-- many tickets it gave back, of how many callers it knows that they joined after the first, the most quits that it was told, the
-- plans that it got, and the callers that left into it
abbrev pub Known : Type 0
Known = View Entry

-- a pass is of a hub, and its caller knows this
pub record PassState : Type 0 where
  pub hub : TableId
  pub view : Known

-- the log that it has seen has all entries that it made
abbrev pub HasMadeAll : Known → Type 0
HasMadeAll p = (n : ℕ) → p.number ≡ Some n → entries_by caller_of n p.log ≡ p.made

-- the caller has seen no less, and no new entry of its own
pub record Sees (p : Known) (log : List Entry) : Type 0 where
  pub more : List Entry
  pub grown : p.log ++ more ≡ log
  pub others : (n : ℕ) → p.number ≡ Some n → entries_by caller_of n more ≡ 0

-- it has seen no less, made nothing, and forgotten nothing
pub record Grows (p q : Known) : Type 0 where
  pub log : Sees p q.log
  pub number : q.number ≡ p.number
  pub made : q.made ≡ p.made
  pub known : p.known ≤ q.known
  pub heard : p.heard ≤ q.heard
  pub served : (pair : ℕ × ℕ) → Contains p.served pair → Contains q.served pair

-- no ticket was given back, and nobody left into it
pub record Keeps (p q : Known) : Type 0 where
  pub given : q.given ≡ p.given
  pub ended : q.ended ≡ p.ended

-- what the first pass of a hub knows
pub record IsFirst (p : Known) : Type 0 where
  pub number : p.number ≡ Some 0
  pub log : p.log ≡ []
  pub made : p.made ≡ 0
  pub pin : p.pin ≡ None
  pub given : p.given ≡ 0
  pub known : p.known ≡ 0
  pub heard : p.heard ≡ 0
  pub served : p.served ≡ []
  pub ended : p.ended ≡ []

-- its own entry is the last that it has seen, behind what it had seen and entries of others
pub record Publishes (change : Change) (number : ℕ) (p q : Known) : Type 0 where
  pub caller : ℕ
  pub own : p.number ≡ Some caller
  pub before : List Entry
  pub log : q.log ≡ before ++ next_entry caller p.made change ∷ []
  pub others : Sees p before
  pub edition : number ≡ length q.log
  pub same : q.number ≡ p.number
  pub made : q.made ≡ p.made + 1
  pub known : p.known ≤ q.known
  pub heard : p.heard ≤ q.heard
  pub served : (pair : ℕ × ℕ) → Contains p.served pair → Contains q.served pair

-- the most passes that may be made from another
abbrev pub most_made : ℕ
most_made = 1000000

-- the caller has pinned an edition that has a message at this index
pub record HasMessage (index : ℕ) (p : Known) : Type 0 where
  pub pinned_at : ℕ
  pub pinned : p.pin ≡ Some pinned_at
  pub inside : index < length (edition_of p.log pinned_at).items

-- it got the plan of that message, which it was served with
pub record Gets (index : ℕ) (plan : Plan) (p q : Known) : Type 0 where
  pub pinned_at : ℕ
  pub pinned : p.pin ≡ Some pinned_at
  pub plan_is : IsPlanAt (edition_of q.log pinned_at) index plan
  pub served : Contains q.served (pinned_at, index)
  pub given : q.given ≡ p.given

-- it has no claim, and gave at most one ticket back
pub record GivesUp (p q : Known) : Type 0 where
  pub claim : q.claim ≡ None
  pub least : p.given ≤ q.given
  pub most : q.given ≤ p.given + 1

-- the counts of the newest edition: as starts no fewer than the quits and the messages that the caller was served from it, and no
-- more than the quits and the messages that there are; and it was told of so many quits
pub record Tells (stat : Stat) (q : Known) : Type 0 where
  pub edition_is : stat.edition ≡ length q.log
  pub least : stat.quits + count_among (in_edition (length q.log) q.served) (length (newest_edition q.log).items) ≤ stat.starts
  pub most : stat.starts ≤ stat.quits + length (newest_edition q.log).items
  pub heard : stat.quits ≤ q.heard
  pub small : stat.quits < 2 ^ 64

-- what a pass knows that was made from another: a number of its own, which is that of the callers that it knows to have joined
-- after the first
pub record IsFresh (p q : Known) : Type 0 where
  pub few : q.known ≤ most_made
  pub number : q.number ≡ Some q.known
  pub made : q.made ≡ 0
  pub pin : q.pin ≡ None
  pub given : q.given ≡ 0
  pub served : q.served ≡ []
  pub ended : q.ended ≡ []
  pub log : StartsWith q.log p.log

-- all passes were made that may be, and the caller knows it
abbrev pub IsFull : Known → PassError → Type 0
IsFull p (CallersFull made) = (made ≡ most_made) × (p.known ≡ most_made)
IsFull p OutOfMemory = Unit {0}

-- what a note knows: what its pass had seen and heard
pub record IsNoted (p noted : Known) : Type 0 where
  pub log : noted.log ≡ p.log
  pub known : noted.known ≡ p.known
  pub heard : noted.heard ≡ p.heard

-- the caller knows what the note did
pub record Learns (noted q : Known) : Type 0 where
  pub log : StartsWith q.log noted.log
  pub known : noted.known ≤ q.known
  pub heard : noted.heard ≤ q.heard

-- what the caller knows that another has left into
pub record Inherits (p left q : Known) : Type 0 where
  pub grows : Grows p q
  pub given : q.given ≡ p.given
  pub pin : q.pin ≡ p.pin
  pub log : StartsWith q.log left.log
  pub heard : left.heard ≤ q.heard
  pub ended : q.ended ≡ p.ended ++ left_behind left.number left

-- how many entries the log has of a caller that has left
abbrev pub HasMade : List Entry → Ended → Type 0
HasMade log e = entries_by caller_of e.caller log ≡ e.made

-- the log at the end: the caller and those that left into it are all that there were, each once, and each has made the entries that it
-- says
pub record Closes (p : Known) (log : List Entry) : Type 0 where
  pub seen : StartsWith log p.log
  -- the numbers are those from 0 to the number of those that left
  pub callers : (n : ℕ) → times n (numbers p) ≡ once_below n (length p.ended + 1)
  pub made : (n : ℕ) → p.number ≡ Some n → entries_by caller_of n log ≡ p.made
  pub ended : Each (HasMade log) p.ended
  pub strangers : (n : ℕ) → length p.ended + 1 ≤ n → entries_by caller_of n log ≡ 0
  pub heard : p.heard ≤ p.given + total (λ e. e.given) p.ended

-- others haven't left, so many
pub record AreLive (p : Known) (live : ℕ) : Type 0 where
  pub some : 1 ≤ live
  pub most : live + length p.ended ≤ p.known

abbrev pub HasOthers : Known → CloseError → Type 0
HasOthers p (Others live) = AreLive p live
