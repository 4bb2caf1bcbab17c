-- The value that the callers of a hub share: the World that the core's steps lead on, and how many tickets were ever given back.
use Rattle.std.specs.Prelude.{◌≡◌, ◌⊎◌, ◌==◌, ◌&&◌, not, ◌+◌, ◌^◌, ◌<◌, ◌≤◌, ℕ, List, length, Some, true}
use Rattle.std.specs.Arc.{arc_value}
use Rattle.std.specs.declared.alloc.Global.{Global}
use Rattle.std.specs.declared.sync.Arc.{Arc}
use Rattle.mf_core.specs.Kept.{board_world, plan_at, IsKept}
use Rattle.mf_core.specs.Steps.{most_callers, row, Step}
use Rattle.mf_core.specs.Worlds.{new_world, swept, World}
use Rattle.mf_core.specs.declared.board.Board.{Board}
use Rattle.mf_core.specs.declared.event.Event.{Event}
use Rattle.mf_core.specs.declared.event.Event.TheVariants.{Join}
use Rattle.mf_core.specs.declared.event.Told.{Told}
use Rattle.mf_edition.specs.Edition.{edition_of, newest_edition, next_edition, EditionState}
use Rattle.mf_edition.specs.declared.change.Change.{Change}
use Rattle.mf_edition.specs.declared.change.Entry.{Entry}
use Rattle.mf_flight.specs.Sums.{sum_below}
use Rattle.mf_io.specs.declared.passes.PassError.{PassError}
use Rattle.mf_io.specs.declared.passes.PassError.TheVariants.{CallersFull, OutOfMemory}
use Rattle.mf_legal.specs.Calls.{one_if}
use Rattle.mf_plan.specs.declared.plan.Plan.{Plan}
use Rattle.mf_turn.specs.Account.{Account, Changes}
use Rattle.mf_hub.specs.Desks.{IsPlanAt}
use Rattle.mf_hub.specs.Kept.{is_ready_state}
use Rattle.mf_hub.specs.declared.got.Got.{Got}
use Rattle.mf_hub.specs.declared.got.Got.TheVariants.{Claimed, Ready}
use Rattle.mf_hub.specs.declared.stat.Stat.{Stat}

pub record Stored : Type 0 where
  pub board : Board (Arc Plan Global)
  pub given : ℕ

-- the World that it is
abbrev pub world_of : Stored → World
world_of s = board_world s.board

abbrev pub caller_of : Entry → ℕ
caller_of entry = entry.caller

abbrev pub nth_of : Entry → ℕ
nth_of entry = entry.nth

-- what the rule of a turn reads of it
abbrev pub account_of : Stored → Account Entry
account_of s = record {
  log = (world_of s).log;
  joined = (world_of s).next;
  present = λ n. ((world_of s).caller n).joined;
  pin = λ n. ((world_of s).caller n).pinned;
  claim = λ n. ((world_of s).caller n).claim;
  quits = s.given;
  ready = λ e i. is_ready_state ((world_of s).slot e i).state;
}

-- that with which a hub begins: caller 0 has joined the new World
pub record IsFirstStore (s : Stored) : Type 0 where
  pub world_is : world_of s ≡ swept (row new_world (Join 0)).1
  pub given_is : s.given ≡ 0

-- nothing of it changes
abbrev pub Stands : Stored → Stored → Type 0
Stands before after = (world_of after ≡ world_of before) × (after.given ≡ before.given)

-- an event of the core leads from one World to the other
pub record IsStep (before after : World) : Type 0 where
  pub event : Event
  pub told : Told
  pub step : Step before event told after

-- a turn is one step of the core, or changes nothing
abbrev pub IsTurn : Stored → Stored → Type 0
IsTurn before after = (world_of after ≡ world_of before) ⊎ IsStep (world_of before) (world_of after)

-- an edition is what a change makes of a log's newest edition, if it has the number of that one
abbrev pub IsMade : List Entry → Change → EditionState → Type 0
IsMade log change edition = edition.number ≡ length log + 1 → edition ≡ next_edition (newest_edition log) change

-- no caller can join any more, and this many have joined after the first
abbrev pub IsFullAt : ℕ → PassError → Type 0
IsFullAt next (CallersFull made) = (next ≡ most_callers) × (made + 1 ≡ next)
IsFullAt next OutOfMemory = Unit {0}

-- how often tickets of an edition's messages were given back
abbrev pub quits_of : World → ℕ → ℕ
quits_of w e = sum_below (λ i. (w.slot e i).quits) (length (edition_of w.log e).items)

-- how many callers below a number are joined beside this one
abbrev pub others_below : World → ℕ → ℕ → ℕ
others_below w n k = sum_below (λ m. one_if (not (m == n) && (w.caller m).joined)) k

-- each plan is that of its message
abbrev pub HasPlans : Board (Arc Plan Global) → Type 0
HasPlans board =
    (e i : ℕ) (plan : Arc Plan Global) → plan_at board e i ≡ Some plan → IsPlanAt (edition_of board.log e) i (arc_value plan)

-- no edition's messages have more quits than tickets were given back
abbrev pub HasQuits : World → ℕ → Type 0
HasQuits w given = given + 1 < 2 ^ 64 → (e : ℕ) → e ≤ length w.log → quits_of w e ≤ given

-- the board is one that the core's steps lead to, and what is kept beside it is right: the newest edition, the plans of what is
-- ready, and that no edition's messages have more quits than tickets were given back
pub record IsStore (board : Board (Arc Plan Global)) (newest : Arc EditionState Global) (given : ℕ) : Type 0 where
  pub kept : IsKept board
  pub newest_is : arc_value newest ≡ newest_edition board.log
  pub plans : HasPlans board
  pub quits : HasQuits (board_world board) given

-- what asking for a message gets where nobody compiles it: its plan where it is ready, or else the claim on it, which is a step
abbrev pub GetsOf : ℕ → ℕ → ℕ → Stored → Stored → Got → Type 0
GetsOf caller edition index before after (Ready plan) =
    Stands before after × IsPlanAt (edition_of (world_of before).log edition) index (arc_value plan)
    × ((account_of before).ready edition index ≡ true)
GetsOf caller edition index before after (Claimed ticket) =
    (ticket ≡ (edition, index)) × IsStep (world_of before) (world_of after)
    × Changes caller (Some edition) (Some (edition, index)) 0 (account_of before) (account_of after)

-- how many messages of the newest edition are ready
abbrev pub ready_count : Stored → ℕ
ready_count s =
    sum_below (λ i. one_if ((account_of s).ready (length (world_of s).log) i)) (length (newest_edition (world_of s).log).items)

-- the counts of the newest edition: its number, quits that are no more than tickets were given back, and starts
pub record IsCount (stat : Stat) (s : Stored) : Type 0 where
  pub edition_is : stat.edition ≡ length (world_of s).log
  pub given : stat.quits ≤ s.given
  pub small : stat.quits < 2 ^ 64
  pub least : stat.quits + ready_count s ≤ stat.starts
  pub most : stat.starts ≤ stat.quits + length (newest_edition (world_of s).log).items
