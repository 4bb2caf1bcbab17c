-- A World: the log, the callers' states, and the entries of editions.
use Rattle.std.specs.Prelude.{◌==◌, ◌&&◌, ◌||◌, ℕ, Bool, false, List, [], length, nat_lt, Option, None, Some, if◌then◌else◌}
use Rattle.mf_edition.specs.declared.change.Entry.{Entry}
use Rattle.mf_flight.specs.declared.slot.Slot.{Slot}
use Rattle.mf_flight.specs.Slots.{fresh}
use Rattle.mf_flight.specs.Sums.{sum_below}
use Rattle.mf_legal.specs.Calls.{one_if}
use Rattle.mf_core.specs.declared.caller.CallerState.{CallerState}

-- the state of a caller that isn't joined
abbrev pub away : CallerState
away = record { joined = false; made = 0; seen = 0; pinned = None; claim = None }

-- the log, the next caller's number, the states of callers, and the entries of editions and indices
pub record World : Type 0 where
  pub log : List Entry
  pub next : ℕ
  pub caller : ℕ → CallerState
  pub slot : ℕ → ℕ → Slot (Unit {0})

-- the new World, in which nobody has joined
abbrev pub new_world : World
new_world = record { log = []; next = 0; caller = λ n. away; slot = λ e i. fresh }

-- a caller has this state
abbrev pub with_caller : World → ℕ → CallerState → World
with_caller w n state = record w { caller = λ m. if m == n then state else w.caller m }

-- an entry is this one
abbrev pub with_slot : World → ℕ → ℕ → Slot (Unit {0}) → World
with_slot w edition index slot = record w { slot = λ e i. if (e == edition) && (i == index) then slot else w.slot e i }

-- whether an option is this number
abbrev pub is_at : ℕ → Option ℕ → Bool
is_at e None = false
is_at e (Some k) = k == e

-- how many callers pin an edition
abbrev pub pins : World → ℕ → ℕ
pins w e = sum_below (λ n. one_if (is_at e (w.caller n).pinned)) w.next

-- an edition is live where it is the newest or pinned
abbrev pub is_live : World → ℕ → Bool
is_live w e = (e == length w.log) || nat_lt 0 (pins w e)

-- the World without the entries of editions that aren't live
abbrev pub swept : World → World
swept w = record w { slot = λ e i. if is_live w e then w.slot e i else fresh }
