-- What the calls of the desk of one caller do.
use Rattle.std.specs.Prelude.{◌≡◌, ◌+◌, ◌≤◌, ◌==◌, ◌||◌, ℕ, Bool, true, List, [], ◌∷◌, ◌++◌, length, slice_get, Some}
use Rattle.std.specs.List.{list_any}
use Rattle.mf_edition.specs.Edition.{newest_edition, EditionState}
use Rattle.mf_edition.specs.Items.{Item}
use Rattle.mf_edition.specs.declared.change.Change.{Change}
use Rattle.mf_plan.specs.Plans.{CompilesTo, IsNode}
use Rattle.mf_plan.specs.declared.plan.Plan.{Plan}
use Rattle.mf_transcript.specs.Served.{count_among}
use Rattle.mf_transcript.specs.Sole.{Desk}
use Rattle.mf_transcript.specs.Steps.{next_entry}
use Rattle.mf_hub.specs.declared.stat.Stat.{Stat}

-- the desk at which nothing was published
abbrev pub empty_desk : Desk
empty_desk = record { log = []; ready = []; quits = 0 }

-- the number of messages of its newest edition
abbrev pub message_count : Desk → ℕ
message_count desk = length (newest_edition desk.log).items

-- one more publication is an entry of caller 0, and no message of its edition is ready
abbrev pub published : Desk → Change → Desk
published desk change = record { log = desk.log ++ next_entry 0 (length desk.log) change ∷ []; ready = []; quits = 0 }

-- the message of an index is among these
abbrev pub is_among : List ℕ → ℕ → Bool
is_among indexes index = list_any (λ other. other == index) indexes

-- these messages are ready now, and nothing else has changed
pub record Gains (before : Desk) (indexes : List ℕ) (after : Desk) : Type 0 where
  pub log : after.log ≡ before.log
  pub quits : after.quits ≡ before.quits
  pub ready : (i : ℕ) → is_among after.ready i ≡ (is_among before.ready i || is_among indexes i)

-- there was no memory: these messages may be ready now, and there is at most one more quit
pub record Forgoes (before : Desk) (indexes : List ℕ) (after : Desk) : Type 0 where
  pub log : after.log ≡ before.log
  pub least : before.quits ≤ after.quits
  pub most : after.quits ≤ before.quits + 1
  pub kept : (i : ℕ) → is_among before.ready i ≡ true → is_among after.ready i ≡ true
  pub new : (i : ℕ) → is_among after.ready i ≡ true → (is_among before.ready i || is_among indexes i) ≡ true

-- a plan is that of the message at an index of an edition
pub record IsPlanAt (edition : EditionState) (index : ℕ) (plan : Plan) : Type 0 where
  pub item : Item
  pub there : slice_get edition.items index ≡ Some item
  pub compiles : CompilesTo item.source plan
  pub node : IsNode plan

-- the counts of its newest edition: the quits, and as starts the messages that are ready and the quits
abbrev pub stat_of : Desk → Stat
stat_of desk = record {
  edition = length desk.log;
  starts = desk.quits + count_among desk.ready (message_count desk);
  quits = desk.quits;
}
